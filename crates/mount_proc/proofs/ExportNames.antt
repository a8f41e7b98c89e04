-- What stands behind the export path.
use Rattle.std.proofs.Common.{◌≡◌, ℕ, Bool, true, false, cond, nat_eq, ◌&&◌, Some, None, option_and_then}
use Rattle.std.proofs.Common.{List, [], ◌∷◌, ◌++◌, length, take, drop, refl, sym, ap, ◌∙◌}
use Rattle.std.specs.Str.{bytes_eq}
use Rattle.mount_proc.specs.ExportPaths.{behind_front, front_of_names, slash}

-- a front of two parts stands there where the second stands behind the first
front_of_two : (a b text : List ℕ) → behind_front (a ++ b) text ≡ option_and_then (behind_front b) (behind_front a text)
front_of_two [] b text = refl
front_of_two (x ∷ a) b [] = refl
front_of_two (x ∷ a) b (y ∷ text) = by (nat_eq y x) (front_of_two a b text)
  where
    by : (is : Bool) → behind_front (a ++ b) text ≡ option_and_then (behind_front b) (behind_front a text)
        → cond (is && bytes_eq (take (length (a ++ b)) text) (a ++ b)) (Some (drop (length (a ++ b)) text)) None
        ≡ option_and_then (behind_front b) (cond (is && bytes_eq (take (length a) text) a) (Some (drop (length a) text)) None)
    by true rest = rest
    by false rest = refl

module _ (export path : List ℕ) where
  pub behind_root : behind_front export path ≡ None → None ≡ behind_front (front_of_names export) path
  behind_root none = by (bytes_eq export (slash ∷ []))
    where
      by : (is : Bool) → None ≡ behind_front (cond is export (export ++ slash ∷ [])) path
      by true = sym none
      by false = sym (front_of_two export (slash ∷ []) path ∙ ap (option_and_then (behind_front (slash ∷ []))) none)

  pub behind_slash : (rest : List ℕ) → bytes_eq export (slash ∷ []) ≡ false → behind_front export path ≡ Some rest
      → behind_front (slash ∷ []) rest ≡ behind_front (front_of_names export) path
  behind_slash rest other some =
      rw other (sym (front_of_two export (slash ∷ []) path ∙ ap (option_and_then (behind_front (slash ∷ []))) some))
