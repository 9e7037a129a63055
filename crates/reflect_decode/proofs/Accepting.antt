-- Which records are accepted, record by record.
use Rattle.std.proofs.Common.{◌≡◌, ℕ, suc, ◌+◌, Bool, true, false, List, [], ◌∷◌, ◌++◌, map, None, Some, refl, sym, ap, ◌∙◌, subst, arith}
use Rattle.std.specs.List.{AllByRecursion}
use Rattle.std.specs.Option.{option_or}
use Rattle.reflect_tables.specs.Types.{PoolType, FieldType}
use Rattle.reflect_pool.specs.Kinds.{IsKind}
use Rattle.reflect_pool.specs.Shapes.{holds_list, holds_map}
use Rattle.reflect_pool.specs.declared.kind.Kind.{Kind}
use Rattle.reflect_pool.specs.declared.kind.Kind.TheVariants as kinds
use Rattle.reflect_pool.specs.declared.message.MessageDescriptor.{MessageDescriptor}
use Rattle.reflect_wire.specs.Records.{Payload}
use Rattle.reflect_scalar.specs.Meaning.{StandsFor}
use Rattle.reflect_scalar.specs.Singles.{Single}
use Rattle.reflect_message.specs.Contents.{Content}
use Rattle.reflect_message.specs.Known.{known_field, known_extension}
use Rattle.reflect_decode.specs.Accepts.{Acceptable, AcceptsKind, AcceptsElement, AcceptsOne, AcceptsEntry, AcceptsAs, AcceptsField, AcceptsIf, AcceptsMessage, Accepts, declared_at}
use Rattle.reflect_decode.specs.Keeps.{payloads}
use Rattle.reflect_decode.specs.Merging.{run_records}
use Rattle.reflect_decode.specs.Messages.{IsInside}
use Rattle.reflect_decode.specs.Suits.{Suits, SuitsBelow}
use Rattle.reflect_decode.proofs.Keeping.{payloads_both, not_numbered, payloads_own}
use Rattle.reflect_decode.proofs.Telling.{list_no_map}

module _ {X : Type 0} (P : X → Type 0) where
  pub all_both : (xs ys : List X) → AllByRecursion P xs → AllByRecursion P ys → AllByRecursion P (xs ++ ys)
  all_both [] ys h k = k
  all_both (x ∷ xs) ys h k = (h.0, all_both xs ys h.1 k)

  pub all_one : (xs : List X) (x : X) → AllByRecursion P xs → P x → AllByRecursion P (xs ++ x ∷ [])
  all_one xs x h k = all_both xs (x ∷ []) h (k, tt)

  pub all_from : (Q : X → Type 0) → ((x : X) → Q x → P x) → (xs : List X) → AllByRecursion Q xs → AllByRecursion P xs
  all_from Q to [] h = tt
  all_from Q to (x ∷ xs) h = (to x h.0, all_from Q to xs h.1)

pub accepts_value : (inner : Acceptable) (grouped : Bool) (kind : Kind) (p : Payload) (v : Single) → StandsFor kind p v → AcceptsKind inner grouped kind p
accepts_value inner grouped (kinds.Message d) p v h = absurd h
accepts_value inner grouped kind p v h = (v, h)

pub is_false : (b : Bool) → (b ≡ true → ⊥) → b ≡ false
is_false true other = absurd (other refl)
is_false false other = refl

module _ (levels : ℕ) (pool : PoolType) (f : FieldType) where
  abbrev A : Acceptable
  A = AcceptsMessage levels

  abbrev Takes : Payload → Type 0
  Takes = AcceptsField levels A pool f

  -- what a list, a map or a single value accepts, its field accepts
  pub list_accepts : (grouped : Bool) (kind : Kind) (ps : List Payload) → grouped ≡ f.group → IsKind pool kind f.kind → holds_list pool f ≡ true → AllByRecursion (AcceptsElement A grouped kind) ps → AllByRecursion Takes ps
  list_accepts grouped kind ps form is list h = all_from Takes (AcceptsElement A grouped kind) one ps h where
    one : (p : Payload) → AcceptsElement A grouped kind p → Takes p
    one p k =
        let no_map = is_false (holds_map pool f) (list_no_map pool f list) in
        let there : AcceptsAs levels A pool f false true p = (kind, is, subst (λ g. AcceptsElement A g kind p) form k) in
        subst (λ m. AcceptsAs levels A pool f m (holds_list pool f) p) (sym no_map) (subst (λ l. AcceptsAs levels A pool f false l p) (sym list) there)

  pub map_accepts : (ps : List Payload) → holds_map pool f ≡ true → AllByRecursion (AcceptsEntry levels A pool f.kind) ps → AllByRecursion Takes ps
  map_accepts ps map h = all_from Takes (AcceptsEntry levels A pool f.kind) (λ p k. subst (λ m. AcceptsAs levels A pool f m (holds_list pool f) p) (sym map) k) ps h

  pub one_accepts : (p : Payload) → holds_map pool f ≡ false → holds_list pool f ≡ false → AcceptsOne A pool f p → AllByRecursion Takes (p ∷ [])
  one_accepts p no_map no_list h =
      (subst (λ m. AcceptsAs levels A pool f m (holds_list pool f) p) (sym no_map) (subst (λ l. AcceptsAs levels A pool f false l p) (sym no_list) h), tt)

  -- a message of the field's kind
  pub message_accepts : (grouped : Bool) (d : MessageDescriptor) (p : Payload) → grouped ≡ f.group → IsKind pool (kinds.Message d) f.kind → A grouped d.pool.now d.index p → AcceptsOne A pool f p
  message_accepts grouped d p form is h = (kinds.Message d, is, subst (λ g. A g d.pool.now d.index p) form h)

module _ (levels : ℕ) (m : MessageDescriptor) (n : ℕ) where
  -- the records of a number whose field accepts them
  field_accepts : (pool : PoolType) (f : FieldType) → declared_at m.pool.now m.index n ≡ Some f → pool ≡ m.pool.now → (ps : List Payload) → AllByRecursion (AcceptsField levels (AcceptsMessage levels) pool f) ps → Accepts levels m (map (λ p. (n, p)) ps)
  field_accepts pool f is same [] h = tt
  field_accepts pool f is same (p ∷ ps) h =
      let here = subst (λ q. AcceptsField levels (AcceptsMessage levels) q f p) same h.0 in
      (subst (λ o. AcceptsIf levels (AcceptsMessage levels) m.pool.now o p) (sym is) here, field_accepts pool f is same ps h.1)

  others_accepted : declared_at m.pool.now m.index n ≡ None → (ps : List Payload) → Accepts levels m (map (λ p. (n, p)) ps)
  others_accepted none [] = tt
  others_accepted none (p ∷ ps) = (subst (λ o. AcceptsIf levels (AcceptsMessage levels) m.pool.now o p) (sym none) tt, others_accepted none ps)

  pub run_of_field : (pool : PoolType) (f : FieldType) (run : List Payload × Payload) → Some f ≡ known_field m.pool.now m.index n → pool ≡ m.pool.now
      → AllByRecursion (AcceptsField levels (AcceptsMessage levels) pool f) (run.0 ++ run.1 ∷ []) → Accepts levels m (run_records n run)
  run_of_field pool f run known same h = field_accepts pool f (ap (λ o. option_or o (known_extension m.pool.now m.index n)) (sym known)) same (run.0 ++ run.1 ∷ []) h

  pub run_of_extension : (pool : PoolType) (f : FieldType) (run : List Payload × Payload) → None ≡ known_field m.pool.now m.index n → Some f ≡ known_extension m.pool.now m.index n → pool ≡ m.pool.now
      → AllByRecursion (AcceptsField levels (AcceptsMessage levels) pool f) (run.0 ++ run.1 ∷ []) → Accepts levels m (run_records n run)
  run_of_extension pool f run none known same h =
      field_accepts pool f (ap (λ o. option_or o (known_extension m.pool.now m.index n)) (sym none) ∙ sym known) same (run.0 ++ run.1 ∷ []) h

  pub run_of_others : (run : List Payload × Payload) → None ≡ known_field m.pool.now m.index n → None ≡ known_extension m.pool.now m.index n → Accepts levels m (run_records n run)
  run_of_others run none also = others_accepted (ap (λ o. option_or o (known_extension m.pool.now m.index n)) (sym none) ∙ sym also) (run.0 ++ run.1 ∷ [])

-- the records inside a message
pub inside_accepted : (below levels : ℕ) → below + 1 ≡ levels → (m : MessageDescriptor) (a : Content) (grouped : Bool) (p : Payload) (rs : List (ℕ × Payload)) → IsInside grouped below p rs → (Suits below m a → Accepts below m rs)
    → SuitsBelow levels m a → AcceptsMessage levels grouped m.pool.now m.index p
inside_accepted below levels e m a grouped p rs inside accepted suits =
    let above : suc below ≡ levels = omega (arith, e) in
    subst (λ l. AcceptsMessage l grouped m.pool.now m.index p) above (rs, inside, accepted (subst (λ l. SuitsBelow l m a) (sym above) suits))

-- the records of an entry's key, or of its value, one more
module _ (P : Payload → Type 0) (n : ℕ) where
  pub part_accepted : (rs : List (ℕ × Payload)) (r : ℕ × Payload) → AllByRecursion P (payloads n rs) → AllByRecursion P (payloads n (r ∷ [])) → AllByRecursion P (payloads n (rs ++ r ∷ []))
  part_accepted rs r h k = subst (AllByRecursion P) (sym (payloads_both n rs (r ∷ []))) (all_both P (payloads n rs) (payloads n (r ∷ [])) h k)

  pub part_of_number : (number : ℕ) (p : Payload) → number ≡ n → P p → AllByRecursion P (payloads n ((number, p) ∷ []))
  part_of_number number p is h = subst (AllByRecursion P) (sym (ap (λ k. payloads n ((k, p) ∷ [])) is ∙ payloads_own n (p ∷ []))) (h, tt)

  pub part_of_another : (number : ℕ) (p : Payload) → (number ≡ n → ⊥) → AllByRecursion P (payloads n ((number, p) ∷ []))
  part_of_another number p other = subst (AllByRecursion P) (sym (ap (map (λ (r : ℕ × Payload). r.1)) (not_numbered n number (p ∷ []) other))) tt
