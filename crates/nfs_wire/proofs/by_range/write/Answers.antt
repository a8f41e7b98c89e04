use Rattle.std.proofs.Common.{sym, subst}
use Rattle.xdr.specs.Reading.{Cursor}
use Rattle.xdr.specs.Rows.{word_row, long_row}
use Rattle.xdr.proofs.Exact.{exact_u32, exact_u64}
use Rattle.nfs_wire.specs.Places.{StandsIn}
use Rattle.nfs_wire.specs.Arguments.{handle_row, stable_row}
use Rattle.nfs_wire.proofs.Parts.{exact_handle, exact_stable}
use Rattle.nfs_wire.proofs.Places.{stands_first, stands_more}
use Rattle.nfs_wire.proofs.by_range.write.Goals as goal

pub slice-requires : goal.slice-requires
slice-requires c =
    let m = c.args.message.now in
    let h = c.in_ok-handle in
    let o = c.in_ok-offset in
    let n = c.in_ok-count in
    let s = c.in_ok-stable in
    let c0 = c.args.items.now in
    let c1 = c.handle.new.self in
    let c2 = c.long.new.self in
    let c3 = c.word.new.self in
    let c4 = c.stable.new.self in
    let first = subst (λ (k : Cursor). StandsIn m k) (sym c.requires) (stands_first m) in
    let s1 = stands_more m c0 c1 (handle_row h.handle) first ((exact_handle c0 c1 h.handle).0 h.ensures) in
    let s2 = stands_more m c1 c2 (long_row o.offset) s1 ((exact_u64 c1 c2 o.offset).0 o.ensures) in
    let s3 = stands_more m c2 c3 (word_row n.count) s2 ((exact_u32 c2 c3 n.count).0 n.ensures) in
    stands_more m c3 c4 (stable_row s.stable) s3 ((exact_stable c3 c4 s.stable).0 s.ensures)
