use Rattle.std.proofs.Common.{◌∙◌, refl, sym}
use Rattle.file_requests.proofs.MessageHandles.{handle_found}
use Rattle.file_requests.proofs.message.handle_file.Goals as goal

pub returns-in-Some : goal.returns-in-Some
returns-in-Some c = c.numbered_file.ensures.named ∙ sym (handle_found c.args.own c.args.files c.args.handle.now c.in-Some.file.0 c.in-Some.fsid c.numbered_file.ensures.low c.numbered_file.ensures.low_fsid (c.file_of.ensures.shape.0 (rw c.in-Some.is refl)) c.in-Some.ensures.read)
