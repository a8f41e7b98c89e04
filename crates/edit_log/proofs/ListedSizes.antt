-- The sizes of the files of a start's tree.
use Rattle.std.proofs.Common.{◌≡◌, ℕ, Bool, true, false, cond, List, [], ◌∷◌, map, Option, None, Some, refl, sym, ◌∙◌, ap, subst, Less, Greater}
use Rattle.std.specs.Prelude.{◌==◌, if◌then◌else◌}
use Rattle.std.specs.Option.{option_map}
use Rattle.std.specs.Ordering.{ordering_reverse}
use Rattle.std.specs.List.{AllByRecursion}
use Rattle.std.specs.List.Sorted.{IsStrictlySortedBy}
use Rattle.std.proofs.lemmas.Bool.{eqb-true}
use Rattle.gw_model.specs.declared.object.KeptObject.{KeptObject}
use Rattle.gw_model.specs.declared.object.ObjectId.{ObjectId}
use Rattle.gw_model.specs.declared.object.ObjectId.TheVariants.{Log, Body}
use Rattle.gw_model.specs.contracts.object.ObjectIdOrd.TheImpl.Laws.{total-law}
use Rattle.append_store.specs.Calls.{IsRising, object_cmp}
use Rattle.name_tree.specs.Tree.{Node, Tree, node, node_in, node_with_size, tree_past, tree_with_size, with_change}
use Rattle.name_tree.proofs.SortedEntries.{same_id}
use Rattle.name_tree.proofs.FlatNodes.{at_change}
use Rattle.edit_log.specs.Laws.{HasListedSizes}
use Rattle.edit_log.specs.Run.{HasSizeOf, size_in}
use Rattle.edit_log.specs.Start.{is_file, tree_with_bodies, tree_with_body, tree_with_length}
use Rattle.edit_log.proofs.StoreLogs.{from_logs}

not_self : (o : ObjectId) → object_cmp o o ≡ Less → ⊥
not_self o h = let turned : Less ≡ Greater = sym h ∙ (total-law.antisymm o o ∙ ap ordering_reverse h) in cc

-- a size that is told of another file
told_apart : (t : Tree) (other file size : ℕ) → (other == file) ≡ false → node (tree_with_length other size t) file ≡ node t file
told_apart t other file size apart = go (is_file (node t other))
  where
    go : (b : Bool) → node (if b then tree_with_size other size None t else t) file ≡ node t file
    go true =
        at_change t.nodes other file (node_with_size size None)
        ∙ ap (λ b. cond b (option_map (node_with_size size None) (node t file)) (node t file)) apart
    go false = refl

-- the bodies of other files tell nothing of this one
untouched : (ks : List KeptObject) (t : Tree) (file version : ℕ) → version ≡ 1 → AllByRecursion (λ y. object_cmp (Body file version) y ≡ Less) (map (λ k. k.object) ks)
    → node (tree_with_bodies ks t) file ≡ node t file
untouched [] t file version one below = refl
untouched (k ∷ ks) t file version one below =
    untouched ks (tree_with_body k.object k.length t) file version one below.1 ∙ other k.object k.length below.0
  where
    apart : (f w : ℕ) → w ≡ 1 → object_cmp (Body file version) (Body f w) ≡ Less → (b : Bool) → (f == file) ≡ b → b ≡ false
    apart f w first less false is = refl
    apart f w first less true is =
        absurd (not_self (Body file version)
        (subst (λ j. object_cmp (Body file version) (Body j version) ≡ Less) (eqb-true f file is)
        (subst (λ j. object_cmp (Body file version) (Body f j) ≡ Less) (first ∙ sym one) less)))

    other : (o : ObjectId) (size : ℕ) → object_cmp (Body file version) o ≡ Less → node (tree_with_body o size t) file ≡ node t file
    other (Log generation) size less = refl
    other (Body f w) size less = go (w == 1) refl
      where
        go : (b : Bool) → (w == 1) ≡ b → node (if b then tree_with_length f size (tree_past f t) else t) file ≡ node t file
        go true first = told_apart (tree_past f t) f file size (apart f w (eqb-true w 1 first) less (f == file) refl)
        go false first = refl

-- a file is told the size of its body
told_size : (t : Tree) (file size : ℕ) → is_file (node (tree_with_length file size t) file) ≡ true → size_in (node (tree_with_length file size t) file) ≡ size
told_size t file size = go (is_file (node t file)) refl
  where
    f : Node → Node
    f = node_with_size size None

    has : (o : Option Node) → is_file o ≡ true → size_in (option_map f o) ≡ size
    has None h = absurd (cc)
    has (Some n) h = refl

    here : node_in file (with_change file f t.nodes) ≡ option_map f (node t file)
    here = at_change t.nodes file file f ∙ ap (λ b. cond b (option_map f (node t file)) (node t file)) (same_id file)

    go : (b : Bool) → is_file (node t file) ≡ b → is_file (node (if b then tree_with_size file size None t else t) file) ≡ true
        → size_in (node (if b then tree_with_size file size None t else t) file) ≡ size
    go true is h = ap size_in here ∙ has (node t file) is
    go false is h = absurd (let no : false ≡ true = sym is ∙ h in cc)

-- each body's size is told, and stays
sizes_told : (ks : List KeptObject) (t : Tree) → IsRising ks → AllByRecursion (λ k. HasSizeOf (tree_with_bodies ks t) k.object k.length) ks
unfolding IsStrictlySortedBy
sizes_told [] t r = tt
sizes_told (k ∷ ks) t r = (first k.object k.length r.0, sizes_told ks (tree_with_body k.object k.length t) r.1)
  where
    first : (o : ObjectId) (size : ℕ) → AllByRecursion (λ y. object_cmp o y ≡ Less) (map (λ j. j.object) ks) → HasSizeOf (tree_with_bodies ks (tree_with_body o size t)) o size
    first (Log generation) size below = tt
    first (Body file version) size below = λ one.
        subst (λ o. is_file o ≡ true → size_in o ≡ size) (sym (untouched ks (tree_with_body (Body file version) size t) file version one below))
        (go (version == 1) (ap (λ v. v == 1) one))
      where
        go : (b : Bool) → b ≡ true → is_file (node (if b then tree_with_length file size (tree_past file t) else t) file) ≡ true
            → size_in (node (if b then tree_with_length file size (tree_past file t) else t) file) ≡ size
        go true is = told_size (tree_past file t) file size
        go false is = absurd (cc)

pub sizes_listed : HasListedSizes
sizes_listed at all g t rising h =
    let parts = from_logs at all g t h in
    subst (λ (u : Tree). AllByRecursion (λ k. HasSizeOf u k.object k.length) all) (sym parts.2) (sizes_told all parts.0 rising)
