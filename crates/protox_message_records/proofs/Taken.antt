-- Names that are taken, and those that are free.
use Rattle.std.proofs.Common.{◌≡◌, ◌∙◌, ◌++◌, ◌≤◌, ◌<◌, ◌+◌, ℕ, Bool, true, false, List, [], ◌∷◌, length, map, refl, ap, sym, append_assoc, arith}
use Rattle.std.proofs.lemmas.Bool.Decides.{nat_tests}
use Rattle.std.proofs.lemmas.List.Folds.{list_any-append}
use Rattle.std.proofs.lemmas.Map.Text.{is_eq-slice_cmp}
use Rattle.std.proofs.lemmas.Slice.Eq.{bytes_eq-Decides}
use Rattle.std.specs.BTreeSet.{insert_key}
use Rattle.std.specs.Cmp.Lexicographic.{slice_cmp}
use Rattle.std.specs.List.{list_any}
use Rattle.std.specs.Ordering.{is_eq, match_ordering, nat_cmp}
use Rattle.std.specs.Prelude.{◌||◌, if◌then◌else◌, nat_le}
use Rattle.std.specs.Str.{bytes_eq}
use Rattle.std.specs.declared.cmp.Ordering.{Ordering}
use Rattle.std.specs.declared.cmp.Ordering.TheVariants.{Less, Equal, Greater}
use Rattle.descriptor_records.specs.Content.{MessageContent, message, messages_of, more_messages, no_messages}
use Rattle.protox_lex.specs.Class.{Text}
use Rattle.protox_message_records.specs.SyntheticOneofs.{AreSame, if_named, is_taken, type_names}
use denote.Ref.{Bor}

or_last : (a b : Bool) → (a || b) ≡ (b || a)
or_last true true = refl
or_last true false = refl
or_last false true = refl
or_last false false = refl

or_assoc : (a b c : Bool) → (a || (b || c)) ≡ ((a || b) || c)
or_assoc true b c = refl
or_assoc false b c = refl

or_again : (a b : Bool) → (a || b) ≡ ((a || b) || a)
or_again true b = refl
or_again false true = refl
or_again false false = refl

pub taken-append : (xs ys : List Text) (w : Text) → is_taken (xs ++ ys) w ≡ (is_taken xs w || is_taken ys w)
taken-append xs ys w = list_any-append (bytes_eq w) xs ys

-- what a set of names finds
pub found : (w : Text) (ks : List (Bor (List ℕ))) → list_any (λ k. is_eq (slice_cmp nat_cmp w k.now)) ks ≡ is_taken (map (λ k. k.now) ks) w
found w [] = refl
found w (k ∷ ks) = ap (λ b. b || list_any (λ j. is_eq (slice_cmp nat_cmp w j.now)) ks) (is_eq-slice_cmp w k.now) ∙ ap (λ b. bytes_eq w k.now || b) (found w ks)

-- a set of names, with one more
pub inserted : (ks : List (Bor (List ℕ))) (k : Bor (List ℕ)) → AreSame (map (λ n. n.now) (insert_key (λ x y. slice_cmp nat_cmp x.now y.now) ks k)) (map (λ n. n.now) ks ++ k.now ∷ [])
inserted [] k w = refl
inserted (x ∷ xs) k w = by (slice_cmp nat_cmp k.now x.now) refl (inserted xs k w) where
  by : (r : Ordering) → slice_cmp nat_cmp k.now x.now ≡ r
      → is_taken (map (λ n. n.now) (insert_key (λ x y. slice_cmp nat_cmp x.now y.now) xs k)) w ≡ is_taken (map (λ n. n.now) xs ++ k.now ∷ []) w
      → is_taken (map (λ n. n.now) (match_ordering r (k ∷ x ∷ xs) (x ∷ xs) (x ∷ insert_key (λ x y. slice_cmp nat_cmp x.now y.now) xs k))) w
      ≡ is_taken (map (λ n. n.now) (x ∷ xs) ++ k.now ∷ []) w
  by Less e more =
      or_last (bytes_eq w k.now) (is_taken (map (λ n. n.now) (x ∷ xs)) w)
      ∙ ap (λ o. is_taken (map (λ n. n.now) (x ∷ xs)) w || o) (sym (or_last (bytes_eq w k.now) false)) ∙ sym (taken-append (map (λ n. n.now) (x ∷ xs)) (k.now ∷ []) w)
  by Equal e more =
      let same : k.now ≡ x.now = (bytes_eq-Decides k.now x.now).0 (sym (is_eq-slice_cmp k.now x.now) ∙ ap is_eq e) in
      or_again (bytes_eq w x.now) (is_taken (map (λ n. n.now) xs) w)
      ∙ ap (λ o. is_taken (map (λ n. n.now) (x ∷ xs)) w || o) (ap (bytes_eq w) (sym same) ∙ or_last false (bytes_eq w k.now))
      ∙ sym (taken-append (map (λ n. n.now) (x ∷ xs)) (k.now ∷ []) w)
  by Greater e more = ap (λ b. bytes_eq w x.now || b) more

-- how many names have at least so many bytes
abbrev pub long : ℕ → List Text → ℕ
long n [] = 0
long n (k ∷ ks) = (if nat_le n (length k) then 1 else 0) + long n ks

no_more : (n m : ℕ) (ks : List Text) → n ≤ m → long m ks ≤ long n ks
no_more n m [] h = omega arith
no_more n m (k ∷ ks) h = let rest = no_more n m ks h in grind (arith, nat_tests, rest)

-- fewer names are longer than one of them than are not shorter
pub fewer_longer : (w : Text) (n : ℕ) (ks : List Text) → n ≡ length w + 1 → is_taken ks w ≡ true → long n ks < long (length w) ks
fewer_longer w n [] is h = absurd (cc)
fewer_longer w n (k ∷ ks) is h = by (bytes_eq w k) refl (fewer_longer w n ks is) where
  by : (b : Bool) → bytes_eq w k ≡ b → (is_taken ks w ≡ true → long n ks < long (length w) ks) → long n (k ∷ ks) < long (length w) (k ∷ ks)
  by true e more =
      let same : length w ≡ length k = ap length ((bytes_eq-Decides w k).0 e) in
      let rest = no_more (length w) n ks (omega (arith, is)) in
      grind (arith, nat_tests, rest, same, is)
  by false e more =
      let rest = more (sym (ap (λ b. b || is_taken ks w) e) ∙ h) in
      grind (arith, nat_tests, rest, is)

-- lists of names, one behind another
pub same_then : (s t u x y : List Text) → AreSame t (s ++ x) → AreSame u (t ++ y) → AreSame u (s ++ (x ++ y))
same_then s t u x y a b w =
    b w ∙ taken-append t y w ∙ ap (λ o. o || is_taken y w) (a w ∙ taken-append s x w)
    ∙ sym (or_assoc (is_taken s w) (is_taken x w) (is_taken y w)) ∙ ap (λ o. is_taken s w || o) (sym (taken-append x y w)) ∙ sym (taken-append s (x ++ y) w)

-- types, with one more
pub type_names-push : (ms : List MessageContent) (m : MessageContent) → type_names (messages_of (ms ++ m ∷ [])) ≡ type_names (messages_of ms) ++ type_names (more_messages m no_messages)
type_names-push [] m = refl
type_names-push (message name fields extensions nested enums ranges oneofs options reserved names ∷ ms) m =
    ap (λ ns. if_named name ++ ns) (type_names-push ms m) ∙ sym (append_assoc (if_named name) (type_names (messages_of ms)) (type_names (more_messages m no_messages)))
