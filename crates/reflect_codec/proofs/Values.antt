-- Going over fields: the values of a number, one after another.
use Rattle.std.proofs.Common.{◌≡◌, ◌⊎◌, inl, inr, ℕ, suc, ◌+◌, ◌<◌, true, false, List, [], ◌∷◌, ◌++◌, map, filter, length, take, drop, get_or, refl, sym, ap, ◌∙◌, subst, append-nil, append_assoc, arith, Option, Some, None, Vec, Global}
use Rattle.std.specs.Prelude.{◌==◌, option_map, unwrap_or}
use Rattle.std.specs.List.{AllZip, Any}
use Rattle.std.proofs.lemmas.List.{map-append, take_more, take-append-drop}
use Rattle.std.proofs.lemmas.List.Elements.{filter-append}
use Rattle.std.proofs.lemmas.List.Concat.{flat_map-append}
use Rattle.std.proofs.Math.Seq.{drop-cons}
use Rattle.reflect_wire.specs.Faults.{TellsTrue}
use Rattle.reflect_wire.specs.Reads.{NoFront, RefusesFront}
use Rattle.reflect_wire.specs.declared.wire_error.WireError.{WireError}
use Rattle.reflect_wire.specs.declared.wire_error.WireError.TheVariants.{Truncated, BadVarint, BadKey, BadWireType, EndGroupMismatch, TooDeep, BadUtf8, TooLong, Memory}
use Rattle.reflect_codec.specs.declared.fields.RawField.{RawField}
use Rattle.reflect_codec.specs.declared.fields.RawValue.TheVariants.{Varint}
use Rattle.reflect_codec.specs.Faults.{OneOf}
use Rattle.reflect_codec.specs.Raw.{value_view, field_view, fields_view}
use Rattle.reflect_codec.specs.Reading.{Value, number, eight_bytes, payload, other, Field, values_at, Rejects, IsText, IsPayload, last, joins, joined}

-- what a refusal tells, in other words
told_as : {P Q R : Type 0} → (Q → R) → P ⊎ Q → P ⊎ R
told_as f (inl p) = inl p
told_as f (inr q) = inr (f q)

-- what is told but for want of memory is so
pub true_told : {P : Type 0} (e : WireError) → (e ≡ Memory → ⊥) → (e ≡ Memory) ⊎ P → P
true_told e more (inl p) = absurd (more p)
true_told e more (inr q) = q

-- a refusal of one reading is one of another that could not be without it and has its faults
pub rejects : {A B X Y : Type 0} {R : A → X → Type 0} {F : A → WireError → Type 0} {S : B → Y → Type 0} {G : B → WireError → Type 0} {a : A} {b : B} {e : WireError}
    → ((y : Y) → S b y → (x : X) × R a x) → (F a e → G b e) → Rejects R F a e → Rejects S G b e
rejects f g h = record { none = λ other y s. let r = f y s in h.none other r.0 r.1; told = told_as g h.told }

pub memory : {B Y : Type 0} {S : B → Y → Type 0} {G : B → WireError → Type 0} {b : B} → Rejects S G b Memory
memory = record { none = λ other y s. other refl; told = inl refl }

-- the same, from a reader that looks for a value at the front
pub refused : {X B Y : Type 0} (R : List ℕ → X → Type 0) (F : List ℕ → WireError → Type 0) (S : B → Y → Type 0) (G : B → WireError → Type 0) (bytes : List ℕ) (b : B) (e : WireError)
    → (NoFront R bytes → (y : Y) → S b y → ⊥) → (NoFront R bytes → F bytes e → G b e) → RefusesFront R bytes e → TellsTrue F bytes e → Rejects S G b e
refused R F S G bytes b Memory f g h t = memory
refused R F S G bytes b Truncated f g h t = record { none = λ other. f h; told = inr (g h t) }
refused R F S G bytes b BadVarint f g h t = record { none = λ other. f h; told = inr (g h t) }
refused R F S G bytes b BadKey f g h t = record { none = λ other. f h; told = inr (g h t) }
refused R F S G bytes b BadWireType f g h t = record { none = λ other. f h; told = inr (g h t) }
refused R F S G bytes b EndGroupMismatch f g h t = record { none = λ other. f h; told = inr (g h t) }
refused R F S G bytes b TooDeep f g h t = record { none = λ other. f h; told = inr (g h t) }
refused R F S G bytes b BadUtf8 f g h t = record { none = λ other. f h; told = inr (g h t) }
refused R F S G bytes b TooLong f g h t = record { none = λ other. f h; told = inr (g h t) }

eq_same : (m n : ℕ) → m ≡ n → (m == n) ≡ true
eq_same m n e = grind arith

eq_other : (m n : ℕ) → (m ≡ n → ⊥) → (m == n) ≡ false
eq_other m n e = grind arith

values_at-append : (n : ℕ) (fs gs : List Field) → values_at n (fs ++ gs) ≡ values_at n fs ++ values_at n gs
values_at-append n fs gs = ap (map (λ (f : Field). f.1)) (filter-append (λ (f : Field). f.0 == n) fs gs) ∙ map-append (λ (f : Field). f.1) (filter (λ (f : Field). f.0 == n) fs) (filter (λ (f : Field). f.0 == n) gs)

values_at-hit : (n : ℕ) (f : Field) (fs : List Field) → f.0 ≡ n → values_at n (f ∷ fs) ≡ f.1 ∷ values_at n fs
values_at-hit n f fs e = rw (eq_same f.0 n e) refl

values_at-miss : (n : ℕ) (f : Field) (fs : List Field) → (f.0 ≡ n → ⊥) → values_at n (f ∷ fs) ≡ values_at n fs
values_at-miss n f fs e = rw (eq_other f.0 n e) refl

fields_view-append : (fs gs : List RawField) → fields_view (fs ++ gs) ≡ fields_view fs ++ fields_view gs
fields_view-append = map-append field_view

-- where each means something, so does one of them
one_of : {A X : Type 0} (R : A → X → Type 0) (front rest : List A) (a : A) (xs : List X) → AllZip R (front ++ a ∷ rest) xs → (x : X) × R a x
one_of R [] rest a [] h = absurd h
one_of R [] rest a (x ∷ xs) h = (x, h.0)
one_of R (b ∷ front) rest a [] h = absurd h
one_of R (b ∷ front) rest a (x ∷ xs) h = one_of R front rest a xs h.1

any_there : {A : Type 0} (P : A → Type 0) (front rest : List A) (a : A) → P a → Any P (front ++ a ∷ rest)
any_there P [] rest a p = (0, a, omega arith, refl, p)
any_there P (b ∷ front) rest a p = let i = any_there P front rest a p in (suc i.0, i.1, omega (arith, i.2), i.3, i.4)

module _ (n : ℕ) (items : List RawField) (i : ℕ) (d : RawField) (inside : i < length items) where
  pub hit : (get_or items i d).number ≡ n
      → values_at n (fields_view (take (i + 1) items)) ≡ values_at n (fields_view (take i items)) ++ value_view (get_or items i d).value ∷ []
  hit e =
      let f = get_or items i d in
      ap (λ fs. values_at n (fields_view fs)) (take_more items i d inside) ∙ ap (values_at n) (fields_view-append (take i items) (f ∷ []))
      ∙ values_at-append n (fields_view (take i items)) (field_view f ∷ []) ∙ ap (λ vs. values_at n (fields_view (take i items)) ++ vs) (values_at-hit n (field_view f) [] e)

  pub miss : ((get_or items i d).number ≡ n → ⊥) → values_at n (fields_view (take (i + 1) items)) ≡ values_at n (fields_view (take i items))
  miss e =
      let f = get_or items i d in
      ap (λ fs. values_at n (fields_view fs)) (take_more items i d inside) ∙ ap (values_at n) (fields_view-append (take i items) (f ∷ []))
      ∙ values_at-append n (fields_view (take i items)) (field_view f ∷ []) ∙ ap (λ vs. values_at n (fields_view (take i items)) ++ vs) (values_at-miss n (field_view f) [] e)
      ∙ append-nil (values_at n (fields_view (take i items)))

  whole : (get_or items i d).number ≡ n
      → values_at n (fields_view items) ≡ values_at n (fields_view (take i items)) ++ value_view (get_or items i d).value ∷ values_at n (fields_view (drop (suc i) items))
  whole e =
      let f = get_or items i d in
      ap (λ fs. values_at n (fields_view fs)) (sym (take-append-drop i items) ∙ ap (λ fs. take i items ++ fs) (drop-cons items i d inside))
      ∙ ap (values_at n) (fields_view-append (take i items) (f ∷ drop (suc i) items)) ∙ values_at-append n (fields_view (take i items)) (field_view f ∷ fields_view (drop (suc i) items))
      ∙ ap (λ vs. values_at n (fields_view (take i items)) ++ vs) (values_at-hit n (field_view f) (fields_view (drop (suc i) items)) e)

  -- the values of a number that was asked for, with this one among them
  among : (m : ℕ) (all : List RawField) → n ≡ m → items ≡ all → (get_or items i d).number ≡ n
      → values_at m (fields_view all) ≡ values_at n (fields_view (take i items)) ++ value_view (get_or items i d).value ∷ values_at n (fields_view (drop (suc i) items))
  among m all same_number same_items e =
      let seen : values_at m (fields_view all) ≡ values_at n (fields_view items) = ap (λ k. values_at k (fields_view all)) (sym same_number) ∙ ap (λ fs. values_at n (fields_view fs)) (sym same_items) in
      seen ∙ whole e

  -- where this value is refused, so are those of the number, each of which has to mean something
  pub rejects_at : (m : ℕ) (all : List RawField) → n ≡ m → items ≡ all → (get_or items i d).number ≡ n
      → {X Y : Type 0} (R : Value → X → Type 0) (F : Value → WireError → Type 0) (S : List Value → Y → Type 0) (e : WireError)
      → ((y : Y) → S (values_at m (fields_view all)) y → (xs : List X) × AllZip R (values_at m (fields_view all)) xs) → Rejects R F (value_view (get_or items i d).value) e
      → Rejects S (OneOf F) (values_at m (fields_view all)) e
  rejects_at m all same_number same_items hit R F S e f h =
      let v = value_view (get_or items i d).value in
      let front = values_at n (fields_view (take i items)) in
      let rest = values_at n (fields_view (drop (suc i) items)) in
      let here = among m all same_number same_items hit in
      rejects (λ y s. let zs = f y s in one_of R front rest v zs.0 (subst (λ vs. AllZip R vs zs.0) here zs.1)) (λ fault. subst (λ vs. OneOf F vs e) (sym here) (any_there (λ w. F w e) front rest v fault)) h

pub each_push : {A X : Type 0} (R : A → X → Type 0) (front : List A) (xs : List X) (a : A) (x : X) → AllZip R front xs → R a x → AllZip R (front ++ a ∷ []) (xs ++ x ∷ [])
each_push R [] [] a x h r = (r, tt)
each_push R [] (y ∷ ys) a x h r = absurd h
each_push R (b ∷ bs) [] a x h r = absurd h
each_push R (b ∷ bs) (y ∷ ys) a x h r = (h.0, each_push R bs ys a x h.1 r)

-- the step of a loop over fields, where a value was read and where none was
module _ (n : ℕ) (items : List RawField) (i : ℕ) (d : RawField) (inside : i < length items) {X : Type 0} (R : Value → X → Type 0) (old : List X) (each : AllZip R (values_at n (fields_view (take i items))) old) where
  pub each_hit : (x : X) → (get_or items i d).number ≡ n → R (value_view (get_or items i d).value) x → AllZip R (values_at n (fields_view (take (i + 1) items))) (old ++ x ∷ [])
  each_hit x e r = subst (λ vs. AllZip R vs (old ++ x ∷ [])) (sym (hit n items i d inside e)) (each_push R (values_at n (fields_view (take i items))) old (value_view (get_or items i d).value) x each r)

  pub each_miss : ((get_or items i d).number ≡ n → ⊥) → AllZip R (values_at n (fields_view (take (i + 1) items))) old
  each_miss e = subst (λ vs. AllZip R vs old) (sym (miss n items i d inside e)) each

abbrev pub blank : RawField
blank = record { number = 0; value = Varint 0 }

pub last-push : {X : Type 0} (xs : List X) (x : X) → last (xs ++ x ∷ []) ≡ Some x
last-push [] x = refl
last-push (y ∷ xs) x = rw (last-push xs x) refl

pub joins-push : {X : Type 0} (xss : List (List X)) (xs : List X) → joins (xss ++ xs ∷ []) ≡ joins xss ++ xs
joins-push xss xs = flat_map-append (λ (ys : List _). ys) xss (xs ∷ []) ∙ ap (λ ys. joins xss ++ ys) (append-nil xs)

abbrev pub none_is_empty : {X : Type 0} → Option (List X) → List X
none_is_empty None = []
none_is_empty (Some xs) = xs

pub joined-push : (parts : List (List Field)) (fs : List Field) → joined (parts ++ fs ∷ []) ≡ Some (none_is_empty (joined parts) ++ fs)
joined-push [] fs = ap Some (append-nil fs)
joined-push (p ∷ parts) fs = ap Some (ap (λ gs. p ++ gs) (joins-push parts fs) ∙ sym (append_assoc p (joins parts) fs))

-- one field more behind those that were read
pub more_seen : (old : List RawField) (f : RawField) (start now next : List Field) (v : Value) → fields_view old ≡ start ++ now → value_view f.value ≡ v → next ≡ now ++ (f.number, v) ∷ []
    → fields_view (old ++ f ∷ []) ≡ start ++ next
more_seen old f start now next v seen value more =
    fields_view-append old (f ∷ []) ∙ ap (λ (fs : List Field). fs ++ (f.number, value_view f.value) ∷ []) seen ∙ ap (λ (w : Value). (start ++ now) ++ (f.number, w) ∷ []) value
    ∙ append_assoc start now ((f.number, v) ∷ []) ∙ ap (λ (fs : List Field). start ++ fs) (sym more)

pub text_is_payload : (v : Value) (t : List ℕ) → IsText v t → (bytes : List ℕ) × IsPayload v bytes
text_is_payload (payload p) t h = (p, refl)
text_is_payload (number n) t h = absurd h
text_is_payload (eight_bytes n) t h = absurd h
text_is_payload other t h = absurd h

pub none_seen : (o : Option (Vec RawField Global)) (empty : Vec RawField Global) → empty.items ≡ [] → fields_view (unwrap_or o empty).items ≡ none_is_empty (option_map (λ (v : Vec RawField Global). fields_view v.items) o)
none_seen None empty e = ap fields_view e
none_seen (Some v) empty e = refl
