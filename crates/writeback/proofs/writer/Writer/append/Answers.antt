use Rattle.std.proofs.Common.{rules, ◌≡◌, ◌<◌, true, false, is_some, length}
use Rattle.writeback.proofs.Putting.{put_failed, put_none, put_good, put_bad}
use Rattle.writeback.proofs.writer.Writer.append.Goals as goal

pub returns-then-is_some : goal.returns-then-is_some
returns-then-is_some g c =
    let failed : is_some c.self.inside.failed ≡ true = search rules in
    rw (← c.self.view_is) (put_failed _ _ _ _ _ _ _ _ _ failed)

pub returns-then-is_empty : goal.returns-then-is_empty
returns-then-is_empty g c =
    let works : is_some c.self.inside.failed ≡ false = search rules in
    let none : length c.args.bytes.now ≡ 0 = search rules in
    rw (← c.self.view_is) (put_none _ _ _ _ _ _ _ _ _ works none)

pub returns-in-Ok : goal.returns-in-Ok
returns-in-Ok g c =
    let works : is_some c.self.inside.failed ≡ false = search rules in
    let some : 0 < length c.args.bytes.now = search rules in
    rw (← c.self.view_is) (put_good _ _ _ _ _ _ _ _ _ _ _ works some c.in-Ok.ensures.notes c.in-Ok.ensures.file)

pub returns-in-Err : goal.returns-in-Err
returns-in-Err g c =
    let works : is_some c.self.inside.failed ≡ false = search rules in
    let some : 0 < length c.args.bytes.now = search rules in
    rw (← c.self.view_is) (put_bad _ _ _ _ _ _ _ _ _ _ _ _ works some c.in-Err.ensures.kept c.in-Err.ensures.notes c.in-Err.ensures.file)
