-- Records of undeclared numbers, record by record.
use Rattle.std.proofs.Common.{◌≡◌, ◌≢◌, inl, inr, Result, Ok, Err, IfOk, ℕ, ◌==◌, Bool, true, false, true≢false, cond, nat_lt, nat_le, List, [], ◌∷◌, ◌++◌, map, refl, sym, ap, ◌∙◌, subst, append_assoc, append-nil, ◌≤◌, arith}
use Rattle.std.specs.Borrow.{Bor}
use Rattle.std.specs.List.{filter}
use Rattle.std.proofs.lemmas.List.{map-append}
use Rattle.std.proofs.lemmas.List.Elements.{filter-append}
use Rattle.reflect_pool.specs.declared.message.MessageDescriptor.{MessageDescriptor}
use Rattle.reflect_pool.specs.FieldsLeft.{field_type}
use Rattle.reflect_pool.specs.declared.field.FieldDescriptor.{FieldDescriptor}
use Rattle.reflect_wire.specs.Reads.{Fronts}
use Rattle.reflect_wire.specs.Records.{Payload, IsValue}
use Rattle.reflect_wire.specs.declared.wire_error.WireError.{WireError}
use Rattle.reflect_wire.specs.declared.wire_key.WireKey.{WireKey}
use Rattle.reflect_entries.specs.Sets.{up_to, above, with_record}
use Rattle.reflect_pool.specs.declared.extension.ExtensionDescriptor.{ExtensionDescriptor}
use Rattle.reflect_scalar.specs.FieldTypes.{extension_type}
use Rattle.reflect_message.specs.Declares.{Owns, OwnsExtension, NoField, IsDeclared}
use Rattle.reflect_decode.specs.Keeps.{numbered, payloads, KeepsUndeclared}
use Rattle.reflect_decode.specs.Merging.{IsRun, run_records}
use Rattle.reflect_decode.specs.Ordered.{Ascend, last}
use Rattle.reflect_decode.proofs.Ordering.{record_placed}

module _ {X : Type 0} (t s : X → Bool) where
  -- a test of what passes another
  filter_within : (xs : List X) → ((x : X) → t x ≡ true → s x ≡ true) → filter t (filter s xs) ≡ filter t xs
  filter_within [] h = refl
  filter_within (x ∷ xs) h = by (filter_within xs h) (t x) refl (s x) refl where
    by : filter t (filter s xs) ≡ filter t xs → (a : Bool) → t x ≡ a → (b : Bool) → s x ≡ b → filter t (filter s (x ∷ xs)) ≡ filter t (x ∷ xs)
    by ih a et true es = ap (λ b. filter t (cond b (x ∷ filter s xs) (filter s xs))) es ∙ ap (λ l. cond (t x) (x ∷ l) l) ih
    by ih true et false es = absurd (true≢false (sym (h x et) ∙ es))
    by ih false et false es = ap (λ b. filter t (cond b (x ∷ filter s xs) (filter s xs))) es ∙ ih ∙ sym (ap (λ b. cond b (x ∷ filter t xs) (filter t xs)) et)

  filter_outside : (xs : List X) → ((x : X) → t x ≡ true → s x ≡ false) → filter t (filter s xs) ≡ []
  filter_outside [] h = refl
  filter_outside (x ∷ xs) h = by (filter_outside xs h) (t x) refl (s x) refl where
    by : filter t (filter s xs) ≡ [] → (a : Bool) → t x ≡ a → (b : Bool) → s x ≡ b → filter t (filter s (x ∷ xs)) ≡ []
    by ih a et false es = ap (λ b. filter t (cond b (x ∷ filter s xs) (filter s xs))) es ∙ ih
    by ih true et true es = absurd (true≢false (sym es ∙ h x et))
    by ih false et true es = ap (λ b. filter t (cond b (x ∷ filter s xs) (filter s xs))) es ∙ ap (λ b. cond b (x ∷ filter t (filter s xs)) (filter t (filter s xs))) et ∙ ih

pub two_empty : {X : Type 0} (xs ys : List X) → xs ++ ys ≡ [] → (xs ≡ []) × (ys ≡ [])
two_empty [] ys e = (refl, e)
two_empty (x ∷ xs) ys e = absurd (cc (e))

-- a record more stands behind those of its number
placed : (m n : ℕ) (p : Payload) (old : List (ℕ × Payload)) → numbered m (with_record old (n, p)) ≡ numbered m old ++ numbered m ((n, p) ∷ [])
placed m n p old = filter-append (λ r. r.0 == m) (up_to n old) ((n, p) ∷ above n old) ∙ by (nat_le m n) refl where
  by : (b : Bool) → nat_le m n ≡ b → numbered m (up_to n old) ++ numbered m ((n, p) ∷ above n old) ≡ numbered m old ++ numbered m ((n, p) ∷ [])
  by true le =
      let low : numbered m (up_to n old) ≡ numbered m old = filter_within (λ r. r.0 == m) (λ r. nat_le r.0 n) old (λ r is. grind (arith, is, le)) in
      let high : numbered m (above n old) ≡ [] = filter_outside (λ r. r.0 == m) (λ r. nat_lt n r.0) old (λ r is. grind (arith, is, le)) in
      ap (λ l. l ++ numbered m ((n, p) ∷ above n old)) low ∙ ap (λ l. numbered m old ++ cond (n == m) ((n, p) ∷ l) l) high
  by false gt =
      let low : numbered m (up_to n old) ≡ [] = filter_outside (λ r. r.0 == m) (λ r. nat_le r.0 n) old (λ r is. grind (arith, is, gt)) in
      let high : numbered m (above n old) ≡ numbered m old = filter_within (λ r. r.0 == m) (λ r. nat_lt n r.0) old (λ r is. grind (arith, is, gt)) in
      let other : (n == m) ≡ false = grind (arith, gt) in
      ap (λ l. l ++ numbered m ((n, p) ∷ above n old)) low
      ∙ ap (λ b. cond b ((n, p) ∷ numbered m (above n old)) (numbered m (above n old))) other
      ∙ high
      ∙ sym (ap (λ b. numbered m old ++ cond b ((n, p) ∷ []) []) other ∙ append-nil (numbered m old))

pub not_numbered : (m n : ℕ) (ps : List Payload) → n ≢ m → numbered m (map (λ p. (n, p)) ps) ≡ []
not_numbered m n [] other = refl
not_numbered m n (p ∷ ps) other =
    let is : (n == m) ≡ false = grind (arith, other) in
    ap (λ b. cond b ((n, p) ∷ numbered m (map (λ p. (n, p)) ps)) (numbered m (map (λ p. (n, p)) ps))) is ∙ not_numbered m n ps other

pub payloads_both : (n : ℕ) (rs ts : List (ℕ × Payload)) → payloads n (rs ++ ts) ≡ payloads n rs ++ payloads n ts
payloads_both n rs ts = ap (map (λ (r : ℕ × Payload). r.1)) (filter-append (λ r. r.0 == n) rs ts) ∙ map-append (λ (r : ℕ × Payload). r.1) (numbered n rs) (numbered n ts)

pub payloads_own : (n : ℕ) (ps : List Payload) → payloads n (map (λ p. (n, p)) ps) ≡ ps
payloads_own n [] = refl
payloads_own n (p ∷ ps) =
    let is : (n == n) ≡ true = grind (arith) in
    let rest = numbered n (map (λ p. (n, p)) ps) in
    ap (λ b. map (λ (r : ℕ × Payload). r.1) (cond b ((n, p) ∷ rest) rest)) is ∙ ap (λ l. p ∷ l) (payloads_own n ps)

module _ (m : MessageDescriptor) where
  pub keeps_none : (old : List (ℕ × Payload)) → KeepsUndeclared m old old []
  keeps_none old = record { behind = λ n u. sym (append-nil (numbered n old)); declared = λ n is. refl; others = λ n e. refl }

  pub keeps_more : (a b c rs ts : List (ℕ × Payload)) → KeepsUndeclared m a b rs → KeepsUndeclared m b c ts → KeepsUndeclared m a c (rs ++ ts)
  keeps_more a b c rs ts h k = record {
    behind = λ n u. k.behind n u ∙ ap (λ l. l ++ numbered n ts) (h.behind n u) ∙ append_assoc (numbered n a) (numbered n rs) (numbered n ts)
        ∙ ap (λ l. numbered n a ++ l) (sym (filter-append (λ r. r.0 == n) rs ts));
    declared = λ n is. k.declared n is ∙ h.declared n is;
    others = λ n e. let both = two_empty (numbered n rs) (numbered n ts) (sym (filter-append (λ r. r.0 == n) rs ts) ∙ e) in k.others n both.1 ∙ h.others n both.0;
  }

  -- a record of an undeclared number that is put
  pub keeps_record : (old new : List (ℕ × Payload)) (n : ℕ) (p : Payload) → (IsDeclared m n → ⊥) → new ≡ with_record old (n, p)
      → KeepsUndeclared m old new ((n, p) ∷ [])
  keeps_record old new n p undeclared e = record {
    behind = λ k u. ap (numbered k) e ∙ placed k n p old;
    declared = λ k is. unread k (not_numbered k n (p ∷ []) (λ same. undeclared (subst (IsDeclared m) (sym same) is)));
    others = unread;
  } where
    unread : (k : ℕ) → numbered k ((n, p) ∷ []) ≡ [] → numbered k new ≡ numbered k old
    unread k none = ap (numbered k) e ∙ placed k n p old ∙ ap (λ l. numbered k old ++ l) none ∙ append-nil (numbered k old)

  -- records of a declared number, of which none is put
  pub keeps_declared : (old new : List (ℕ × Payload)) (n : ℕ) (run : List Payload × Payload) → new ≡ old → IsDeclared m n → KeepsUndeclared m old new (run_records n run)
  keeps_declared old new n run e is = record {
    behind = λ k u. ap (numbered k) e ∙ sym (ap (λ l. numbered k old ++ l) (not_numbered k n (run.0 ++ run.1 ∷ []) (λ same. u (subst (IsDeclared m) same is))) ∙ append-nil (numbered k old));
    declared = λ k is. ap (numbered k) e;
    others = λ k none. ap (numbered k) e;
  }

  pub field_declared : (f : FieldDescriptor) (n : ℕ) → Owns m f → (field_type f).number ≡ n → IsDeclared m n
  field_declared f n owns is = inl (f, owns, is)

  -- a number that neither a field nor an extension has
  pub not_declared : (n : ℕ) → NoField m n → ((x : ExtensionDescriptor) → OwnsExtension m x → (extension_type x).number ≢ n) → IsDeclared m n → ⊥
  not_declared n none apart (inl (f, owns, is)) = none f owns is
  not_declared n none apart (inr (x, owns, is)) = apart x owns is

  module _ (levels : ℕ) (key : WireKey) (bytes : List ℕ) where
    pub kept_if_read : (old new : List (ℕ × Payload)) (r : Result (Bor (List ℕ)) WireError) → (IsDeclared m key.number → ⊥)
        → 1 ≤ key.number → key.number ≤ last
        → IfOk r (λ rest. (p : Payload) × Fronts (IsValue levels key) bytes p rest.now × (new ≡ with_record old (key.number, p)))
        → IfOk r (λ rest. (run : List Payload × Payload) × Fronts (IsRun levels key) bytes run rest.now × KeepsUndeclared m old new (run_records key.number run)
        × (Ascend 1 last old → Ascend 1 last new))
    kept_if_read old new (Ok rest) none least most h = (
      ([], h.0),
      (h.1.0, ([], h.1.0, refl, h.1.1, refl), h.1.2),
      keeps_record old new key.number h.0 none h.2,
      λ ascends. subst (Ascend 1 last) (sym h.2) (record_placed 1 last key.number h.0 old least most ascends),
    )
    kept_if_read old new (Err e) none least most h = tt
