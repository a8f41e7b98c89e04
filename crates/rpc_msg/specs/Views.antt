-- What a call is seen as.
use Rattle.std.specs.Prelude.{ℕ, List, take}
use Rattle.rpc_msg.specs.declared.call.Caller.{Caller}
use Rattle.rpc_msg.specs.declared.call.Call.{Call}
use Rattle.rpc_msg.specs.declared.sender.Sender.{Sender}
use Rattle.rpc_msg.specs.declared.sender.Groups.{Groups}
use Rattle.rpc_msg.specs.declared.parts.Parts.{Parts}
use Rattle.rpc_msg.specs.Calls.{SenderText, CallText}

-- the first gid_count of gids count
abbrev pub sender_view : Caller → List ℕ → SenderText
sender_view caller host = record { uid = caller.uid; gid = caller.gid; gids = take caller.gid_count caller.gids; host = host }

abbrev pub call_view : Call → CallText
call_view call =
    record {
      xid = call.xid;
      prog = call.prog;
      vers = call.vers;
      proc_no = call.proc_no;
      sender = sender_view call.caller call.host;
      args = call.args;
    }

-- The parts of a message, before they are taken out of it.
abbrev pub groups_view : Groups → List ℕ
groups_view g = take g.count g.gids

abbrev pub lent_sender_view : Sender → SenderText
lent_sender_view s = sender_view s.caller s.host.now

abbrev pub parts_view : Parts → CallText
parts_view p =
    record {
      xid = p.xid;
      prog = p.prog;
      vers = p.vers;
      proc_no = p.proc_no;
      sender = lent_sender_view p.sender;
      args = p.args.now;
    }
