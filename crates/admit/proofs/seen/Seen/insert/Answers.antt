use Rattle.std.proofs.Common.{◌≡◌, ◌+◌, ◌∷◌, [], ◌++◌, ◌∙◌, map, max, sym, ap, subst, arith, rules}
use Rattle.std.specs.Prelude.{vec_len, false, None}
use Rattle.std.proofs.lemmas.List.{length-map}
use Rattle.range_map.specs.Entries.{with_entry}
use Rattle.admit.specs.Parts.{AllUpTo, ArePendingEntries, line_of, memory_of, writes_of}
use Rattle.admit.proofs.AcceptedEntries.{fit-put_in, memory-put_in, new_number, upto-put_in, writes-put_in}
use Rattle.admit.proofs.GivenUpLines.{lines_more, numbered_more}
use Rattle.admit.proofs.seen.Seen.insert.Goals as goal

pub insert-requires : goal.insert-requires
insert-requires g c =
    let h = c.self.inside.history in
    let number = rw (← c.self.view_is) at c.requires.number in
    let long = length-map h.items line_of in
    new_number (vec_len h) c.args.entry (g.M.PendingMap.entries c.self.inside.pending) c.self.invariant.2 (omega (arith, number, long, h.ok))

pub invariant_of-self-2 : goal.invariant_of-self-2
invariant_of-self-2 g c =
    let e = c.args.entry in
    let h = c.self.inside.history in
    let es = g.M.PendingMap.entries c.self.inside.pending in
    let inv = c.self.invariant in
    let number = rw (← c.self.view_is) at c.requires.number in
    let long = length-map h.items line_of in
    let is : e.number ≡ vec_len h + 1 = omega (arith, number, long, h.ok) in
    let put : g.M.PendingMap.entries c.insert.new.self ≡ with_entry e es = search rules in
    let more : vec_len c.push_reserved.new.self ≡ vec_len h + 1 = omega (arith, c.push_reserved.ensures.len, c.reserve.ensures.len) in
    let sum : c.in-Some.memory ≡ c.self.inside.memory + e.weight = search rules in (
      inv.0,
      subst ArePendingEntries (sym put) (fit-put_in (vec_len h) e es inv.1 inv.2 is c.requires.fits),
      subst (AllUpTo (vec_len c.push_reserved.new.self)) (sym put) (upto-put_in (vec_len h) _ e es inv.2 is more),
      sum ∙ ap (λ m. m + e.weight) inv.3 ∙ sym (ap memory_of put ∙ memory-put_in (vec_len h) e es inv.2 is c.requires.fits),
      numbered_more h.items _ _ _ inv.4 c.push_reserved.ensures.items c.reserve.ensures.items (omega (arith, is, h.ok)),
    )

pub returns-clause-ok : goal.returns-clause-ok
returns-clause-ok g c =
    let e = c.args.entry in
    let h = c.self.inside.history in
    let es = g.M.PendingMap.entries c.self.inside.pending in
    let number = rw (← c.self.view_is) at c.requires.number in
    let long = length-map h.items line_of in
    let is : e.number ≡ vec_len h + 1 = omega (arith, number, long, h.ok) in
    let put : g.M.PendingMap.entries c.insert.new.self ≡ with_entry e es = search rules in
    let top : c.max-self-inside.result ≡ max c.self.inside.top (e.offset + e.count) = search rules in
    let line = lines_more h.items _ _ _ c.push_reserved.ensures.items c.reserve.ensures.items in
    let count = sym c.requires.fits.1 in
    rw (← c.self.view_is) (λ i. record {
      reach = c.self.inside.reach;
      top = (top ∙ ap (λ n. max c.self.inside.top (e.offset + n)) count) i;
      pending = (ap writes_of put ∙ writes-put_in (vec_len h) e es c.self.invariant.2 is) i;
      entries = (line ∙ ap (λ n. map line_of h.items ++ record { number = e.number; offset = e.offset; count = n; lost = false; place = None } ∷ []) count) i;
    })
