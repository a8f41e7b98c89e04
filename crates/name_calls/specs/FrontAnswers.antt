-- What the front answers, by the procedure: one table over the definitions of queries, changes and mounts (RFC 1813 sections 3.3
-- and 5.2).
use Rattle.std.specs.Prelude.{ℕ, false, List, Option, Some, None, Result, Ok, Err}
use Rattle.gw_model.specs.declared.FileId.{FileId}
use Rattle.handles.specs.Handle.{handle_text}
use Rattle.rpc_msg.specs.declared.call.Call.{Call}
use Rattle.nfs_wire.specs.declared.args.Args.{Args}
use Rattle.nfs_wire.specs.declared.args.Args.TheVariants as args
use Rattle.nfs_wire.specs.Results.{MountText, Results, Null, MountNull, Mnt, Dump, Umnt, Umntall, Export, Refused}
use Rattle.name_tree.specs.Tree.{Tree}
use Rattle.mount_proc.specs.Mounts.{mnt_judgement, mounts_with, mounts_without, mounts_without_host}
use Rattle.name_queries.specs.Queries.{query_results}
use Rattle.name_changes.specs.Answers.{Asked, Tells, asked}
use Rattle.name_calls.specs.declared.front.Front.{Front}

-- of MNT: the handle of the directory, or its refusal
abbrev pub mnt_results : (fsid : ℕ) → Result FileId ℕ → Results
mnt_results fsid (Ok dir) = Mnt (handle_text dir.0 fsid)
mnt_results fsid (Err refusal) = Refused refusal 0

-- MNT of a path by the caller's machine
abbrev pub mnt_of : Front → Call → (path : List ℕ) → Result FileId ℕ
mnt_of f q path = mnt_judgement f.names.tree.tree f.export.items f.mounts q.host path

-- the results of a procedure that changes no names; None for another
unfoldable pub front_results : Front → Call → Args → Option Results
front_results f q args.Null = Some Null
front_results f q args.MountNull = Some MountNull
front_results f q (args.Mnt path) = Some (mnt_results f.names.fsid (mnt_of f q path))
front_results f q args.Dump = Some (Dump f.mounts)
front_results f q (args.Umnt path) = Some Umnt
front_results f q args.Umntall = Some Umntall
front_results f q args.Export = Some (Export f.export.items)
front_results f q a = query_results f.names.tree.tree f.names.fsid q.caller a

-- results are told, and the reply isn't kept
abbrev pub asked_or : Option Results → Option Asked → Option Asked
asked_or (Some results) changing = Some (Tells false results)
asked_or None changing = changing

-- what a client's call asks for; None for READ, WRITE and COMMIT
abbrev pub front_asked : Front → (client : ℕ) → Call → (moment : ℕ) → Args → Option Asked
front_asked f client q moment a = asked_or (front_results f q a) (asked f.names client q moment a)

-- the mount list once a call is answered

-- a MNT that isn't refused lists its pair
abbrev pub mounts_if : Result FileId ℕ → (host path : List ℕ) → List MountText → List MountText
mounts_if (Ok dir) host path ms = mounts_with host path ms
mounts_if (Err refusal) host path ms = ms

-- so over a tree and the export path; all but MNT, UMNT and UMNTALL leave the list as it is
abbrev pub mounts_by : Tree → (export host : List ℕ) → Args → List MountText → List MountText
mounts_by t export host (args.Mnt path) ms = mounts_if (mnt_judgement t export ms host path) host path ms
mounts_by t export host (args.Umnt path) ms = mounts_without host path ms
mounts_by t export host args.Umntall ms = mounts_without_host host ms
mounts_by t export host _ ms = ms

abbrev pub mounts_after : Front → Call → Args → List MountText
mounts_after f q a = mounts_by f.names.tree.tree f.export.items q.host a f.mounts
