-- Extents that are held stay live, each held once, as others come and go.
use Rattle.std.proofs.Common.{◌≡◌, ◌≢◌, Bool, true, false, not, cond, List, [], ◌∷◌, ◌++◌, refl, sym, ap, subst, arith}
use Rattle.std.specs.Prelude.{◌||◌}
use Rattle.std.specs.List.{All}
use Rattle.std.proofs.lemmas.Bool.Decides.{nat_tests}
use Rattle.std.proofs.lemmas.List.Elements.{All-head, All-tail, All-filter}
use Rattle.spill_region.specs.Extents.{Span, is_same, without}
use Rattle.spill.proofs.Keeps.{placed_freed}
use Rattle.range_map.proofs.SortedEntries.{and_true, both_true}
use Rattle.pending_writes.specs.Extents.{is_live, are_live}

-- one more is live
live-more : (e f : Span) (live : List Span) → is_live e live ≡ true → is_live e (live ++ f ∷ []) ≡ true
live-more e f [] is = cc
live-more e f (x ∷ xs) is =
    let go : (b : Bool) → b || is_live e xs ≡ true → b || is_live e (xs ++ f ∷ []) ≡ true = elim [ true ↦ λ h. refl | false ↦ λ h. live-more e f xs h ] in
    go (is_same x e) is

live-last : (f : Span) (live : List Span) → is_live f (live ++ f ∷ []) ≡ true
live-last f [] = let here : is_same f f ≡ true = grind (arith, nat_tests) in rw here refl
live-last f (x ∷ xs) = let go : (b : Bool) → b || is_live f (xs ++ f ∷ []) ≡ true = elim [ true ↦ refl | false ↦ live-last f xs ] in go (is_same x f)

without-more : (e f : Span) (live : List Span) → is_same f e ≡ false → without e (live ++ f ∷ []) ≡ without e live ++ f ∷ []
without-more e f [] off = rw off refl
without-more e f (x ∷ xs) off =
    let go : (b : Bool) → cond b (x ∷ without e (xs ++ f ∷ [])) (without e (xs ++ f ∷ [])) ≡ cond b (x ∷ without e xs) (without e xs) ++ f ∷ [] = elim [ true ↦ ap (λ ys. x ∷ ys) (without-more e f xs off) | false ↦ without-more e f xs off ] in
    go (not (is_same x e))

-- no live extent begins where f does
abbrev pub IsFresh : Span → List Span → Type 0
IsFresh f live = All (λ x. x.start ≢ f.start) live

fresh-without : (e f : Span) (live : List Span) → IsFresh f live → IsFresh f (without e live)
fresh-without e f live fresh = All-filter (λ x. not (is_same x e)) (λ (x : Span). x.start ≢ f.start) live fresh

fresh-off : (e f : Span) (live : List Span) → IsFresh f live → is_live e live ≡ true → is_same f e ≡ false
fresh-off e f [] fresh is = cc
fresh-off e f (x ∷ xs) fresh is =
    let apart : x.start ≢ f.start = All-head (λ (y : Span). y.start ≢ f.start) x xs fresh in
    let go : (b : Bool) → is_same x e ≡ b → b || is_live e xs ≡ true → is_same f e ≡ false = elim [
      | true ↦ λ t h. grind (arith, nat_tests)
      | false ↦ λ t h. fresh-off e f xs (All-tail (λ (y : Span). y.start ≢ f.start) x xs fresh) h
    ] in
    go (is_same x e) refl is

-- one more is held, anywhere among those that are
pub live-add : (f : Span) (xs ys live : List Span) → IsFresh f live → are_live (xs ++ ys) live ≡ true → are_live (xs ++ f ∷ ys) (live ++ f ∷ []) ≡ true
live-add f [] ys live fresh all = both_true (is_live f (live ++ f ∷ [])) (are_live ys (without f (live ++ f ∷ []))) (live-last f live) (subst (λ es. are_live ys es ≡ true) (sym (placed_freed f live fresh)) all)
live-add f (x ∷ xs) ys live fresh all =
    let parts = and_true (is_live x live) (are_live (xs ++ ys) (without x live)) all in
    let off = fresh-off x f live fresh parts.0 in
    let rest = live-add f xs ys (without x live) (fresh-without x f live fresh) parts.1 in
    both_true (is_live x (live ++ f ∷ [])) (are_live (xs ++ f ∷ ys) (without x (live ++ f ∷ []))) (live-more x f live parts.0) (subst (λ es. are_live (xs ++ f ∷ ys) es ≡ true) (sym (without-more x f live off)) rest)

-- two are taken away, in either order
pub without-swap : (e f : Span) (live : List Span) → without e (without f live) ≡ without f (without e live)
without-swap e f [] = refl
without-swap e f (x ∷ xs) =
    let go : (a b : Bool) → not (is_same x e) ≡ a → not (is_same x f) ≡ b
    → without e (cond b (x ∷ without f xs) (without f xs)) ≡ without f (cond a (x ∷ without e xs) (without e xs)) = elim [
      | true ↦ elim [
        | true ↦ λ p q. rw (p, q) (ap (λ (ys : List Span). x ∷ ys) (without-swap e f xs))
        | false ↦ λ p q. rw q (without-swap e f xs)
      ]
      | false ↦ elim [
        | true ↦ λ p q. rw p (without-swap e f xs)
        | false ↦ λ p q. without-swap e f xs
      ]
    ] in
    go (not (is_same x e)) (not (is_same x f)) refl refl

-- one that is live beside another is live
pub live-beside : (e f : Span) (live : List Span) → is_live e (without f live) ≡ true → is_live e live ≡ true
live-beside e f [] is = cc
live-beside e f (x ∷ xs) is =
    let rest = live-beside e f xs in
    let go : (a b : Bool) → is_same x e ≡ a → not (is_same x f) ≡ b → is_live e (cond b (x ∷ without f xs) (without f xs)) ≡ true → a || is_live e xs ≡ true = elim [
      | true ↦ λ b p q h. refl
      | false ↦ elim [
        | true ↦ λ p q h. rest (rw p at h)
        | false ↦ λ p q h. rest h
      ]
    ] in
    go (is_same x e) (not (is_same x f)) refl refl is

-- those that are live beside one are live
pub all-beside : (f : Span) (es live : List Span) → are_live es (without f live) ≡ true → are_live es live ≡ true
all-beside f [] live all = refl
all-beside f (e ∷ es) live all =
    let parts = and_true (is_live e (without f live)) (are_live es (without e (without f live))) all in
    let swapped : are_live es (without f (without e live)) ≡ true = subst (λ (xs : List Span). are_live es xs ≡ true) (without-swap e f live) parts.1 in
    both_true (is_live e live) (are_live es (without e live)) (live-beside e f live parts.0) (all-beside f es (without e live) swapped)
