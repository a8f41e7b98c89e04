use Rattle.file_requests.proofs.MessageAsked.{asked_else}
use Rattle.file_requests.proofs.message.args_asked.Goals as goal

pub returns : goal.returns
returns c =
    let d = c.in_default in
    rw (asked_else c.args.xid c.args.args d.not-Null d.not-MountNull d.not-Read d.not-Write d.not-Commit) c.status_reply-in_default.ensures
