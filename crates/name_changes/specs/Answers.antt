-- What a call that changes names or attributes is answered (RFC 1813 sections 3.3.2 and 3.3.8 to 3.3.15).
use Rattle.std.specs.Prelude.{ℕ, Bool, true, false, List, ◌++◌, Option, Some, None, unwrap_or, Result, Ok, Err, if◌then◌else◌}
use Rattle.std.specs.Option.{option_map}
use Rattle.gw_model.specs.Statuses as status
use Rattle.xdr.specs.Rows.{text}
use Rattle.nfs_types.specs.declared.attr.Attr.{Attr}
use Rattle.nfs_types.specs.Types.{moment_time}
use Rattle.rpc_msg.specs.declared.call.Call.{Call}
use Rattle.rpc_msg.specs.declared.call.Caller.{Caller}
use Rattle.rpc_msg.specs.Numbers.{success}
use Rattle.rpc_msg.specs.Replies.{accepted_text}
use Rattle.handles.specs.Handle.{handle_text}
use Rattle.nfs_wire.specs.declared.args.Args.{Args}
use Rattle.nfs_wire.specs.declared.args.Args.TheVariants as args
use Rattle.nfs_wire.specs.Results.{Results, Setattr, Create, Mkdir, Symlink, Remove, Rmdir, Rename, Refused, results_row, zeros_of}
use Rattle.name_tree.specs.declared.edit.Edit.{Edit}
use Rattle.name_tree.specs.declared.edit.Edit.TheVariants as edit
use Rattle.name_tree.specs.Tree.{Tree, child, new_attr, node, tree_after}
use Rattle.name_tree.specs.Table.{NameJudgement, Refuse, Same, Change}
use Rattle.edit_log.specs.Start.{is_file}
use Rattle.name_queries.specs.Found.{file_attr, with_system}
use Rattle.name_changes.specs.Asks.{change_judgement, is_changing, scene_of, unsupported_refusal}
use Rattle.dup_cache.specs.CallList.{call_key, reply_for}
use Rattle.name_changes.specs.declared.change.FileSystem.{FileSystem}
use Rattle.name_changes.specs.declared.change.Changed.{Changed}
use Rattle.name_changes.specs.declared.change.Changed.TheVariants.{Durable, Failed}

-- results

-- of CREATE, MKDIR and SYMLINK: the handle and the attributes of the file, directory or link
abbrev pub made_results : Args → List ℕ → Attr → Results
made_results (args.Mkdir place set) handle attr = Mkdir handle attr
made_results (args.Symlink place set path) handle attr = Symlink handle attr
made_results _ handle attr = Create handle attr

-- of the others: nothing
abbrev pub plain_results : Args → Results
plain_results (args.Setattr handle set guard) = Setattr
plain_results (args.Remove place) = Remove
plain_results (args.Rmdir place) = Rmdir
plain_results _ = Rename

-- the attributes of what an edit makes, with the number of the file system
abbrev pub made_attr : (fsid moment : ℕ) → Edit → Option Attr
made_attr fsid moment (edit.Make parent id kind mode uid gid name path atime mtime verifier) =
    Some (with_system fsid (new_attr id kind mode uid gid path atime mtime (moment_time moment)))
made_attr fsid moment _ = None

abbrev pub results_with : Args → ℕ → Option Attr → Results
results_with a fsid None = plain_results a
results_with a fsid (Some attr) = made_results a (handle_text attr.fileid fsid) attr

-- where the edit is done
abbrev pub changed_results : Args → (fsid moment : ℕ) → Edit → Results
changed_results a fsid moment e = results_with a fsid (made_attr fsid moment e)

-- where it is so already, of this file
abbrev pub there_results : ℕ → ℕ → Option Attr → Result Results ℕ
there_results file fsid None = Err status.stale
there_results file fsid (Some attr) = Ok (Create (handle_text file fsid) attr)

abbrev pub same_outcome : Args → Tree → (fsid file : ℕ) → Result Results ℕ
same_outcome (args.Create place how) t fsid file = there_results file fsid (file_attr t fsid file)
same_outcome a t fsid file = Ok (plain_results a)

-- A refusal has the optional parts of its procedure, which are absent.
abbrev pub refused_results : Args → ℕ → Results
refused_results a refusal = Refused refusal (unwrap_or (zeros_of a) 0)

abbrev pub results_or : Args → Result Results ℕ → Results
results_or a (Ok results) = results
results_or a (Err refusal) = refused_results a refusal

-- the whole reply: its head, and the results
abbrev pub reply_text : ℕ → Results → List ℕ
reply_text xid results = accepted_text xid success ++ text (results_row results)

-- what a call asks for

pub data Asked : Type 0 where
  -- it was answered before, and has that reply
  Again : (reply : List ℕ) → Asked
  -- These results are told, and nothing changes. The reply is kept unless the procedure isn't supported.
  Tells : (is_kept : Bool) (results : Results) → Asked
  Alters : (edit : Edit) → Asked

abbrev pub asked_new : Args → Tree → ℕ → NameJudgement → Asked
asked_new a t fsid (Refuse refusal) = Tells true (refused_results a refusal)
asked_new a t fsid (Same file) = Tells true (results_or a (same_outcome a t fsid file))
asked_new a t fsid (Change edit) = Alters edit

-- what a call of a changing procedure asks for, where it wasn't answered before
abbrev pub asked_first : FileSystem → Caller → (moment : ℕ) → Args → Option Asked
asked_first f c moment a =
    Some (asked_new a f.tree.tree f.fsid (change_judgement (scene_of f.tree.tree c f.read_only) f.fsid moment a))

abbrev pub asked_again : Option (List ℕ) → Option Asked → Option Asked
asked_again None asked = asked
asked_again (Some reply) asked = Some (Again reply)

-- its reply again, where it was answered before
abbrev pub asked_changing : FileSystem → Caller → (key : List ℕ) → (moment : ℕ) → Args → Option Asked
asked_changing f c key moment a = asked_again (reply_for key f.calls) (asked_first f c moment a)

-- None for a procedure that is supported
abbrev pub asked_unsupported : Args → Option ℕ → Option Asked
asked_unsupported a refusal = option_map (λ r. Tells false (refused_results a r)) refusal

-- what a client's call asks for; None for a procedure that changes nothing
abbrev pub asked : FileSystem → (client : ℕ) → Call → (moment : ℕ) → Args → Option Asked
asked f client call moment a =
    if is_changing a then asked_changing f call.caller (call_key client call.whole) moment a
    else asked_unsupported a (unsupported_refusal f.tree.tree f.fsid a)

-- what it is answered, by how its change ended

-- the regular file that an edit takes out of the tree
abbrev pub file_in : Tree → Option ℕ → Option ℕ
file_in t None = None
file_in t (Some id) = if is_file (node t id) then Some id else None

abbrev pub removed_by : Tree → Edit → Option ℕ
removed_by t (edit.Remove parent name) = file_in t (child t parent name)
removed_by t (edit.Rename parent name to_parent to_name) = file_in t (child t to_parent to_name)
removed_by t _ = None

-- the reply, the file that lost its name, and the tree
pub record Answer : Type 0 where
  pub reply : List ℕ
  pub removed : Option ℕ
  pub tree : Tree

abbrev pub edit_answer : ℕ → Args → (fsid moment : ℕ) → Tree → Edit → Changed → Answer
edit_answer xid a fsid moment t e Durable =
    record {
      reply = reply_text xid (changed_results a fsid moment e);
      removed = removed_by t e;
      tree = tree_after e moment t;
    }
edit_answer xid a fsid moment t e Failed =
    record { reply = reply_text xid (refused_results a status.io); removed = None; tree = t }

-- None where there is no such ending
abbrev pub answer_to : ℕ → Args → (fsid moment : ℕ) → Tree → Asked → Option Changed → Option Answer
answer_to xid a fsid moment t (Again reply) None = Some (record { reply = reply; removed = None; tree = t })
answer_to xid a fsid moment t (Tells is_kept results) None =
    Some (record { reply = reply_text xid results; removed = None; tree = t })
answer_to xid a fsid moment t (Alters e) (Some ending) = Some (edit_answer xid a fsid moment t e ending)
answer_to xid a fsid moment t _ _ = None
