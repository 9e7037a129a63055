-- Numbers of types in references, before and behind linking; a full name is declared once.
use Rattle.std.proofs.Common.{◌≡◌, ◌≤◌, ℤ, pos, List, ◌⊎◌, inl, inr, map, Bool, true, false, cond, Some, None, refl, sym, ap, ◌∙◌, subst, sum_by, arith}
use Rattle.std.specs.List.{Contains}
use Rattle.std.specs.Str.{bytes_eq}
use Rattle.std.specs.Ordering.{int_eq}
use Rattle.std.proofs.lemmas.Slice.Eq.{bytes_eq-Decides}
use Rattle.descriptor_records.specs.Content.{Text}
use Rattle.schema_view.specs.References.{Want, a_message, a_type, Reference, Target}
use Rattle.schema_view.specs.Outlines.{Sort, message_sort, enum_sort, service_sort, other_sort, Head, Outline, times, AreApart, IsDeclared}
use Rattle.schema_view.specs.Means.{IsWanted, HasType, SuitsWant}
use Rattle.schema_view.proofs.Lists.{sum_map, sum_some, one_of}
use Rattle.schema_view.proofs.Agreeing.{IsTyped}
use Rattle.schema_view.proofs.Renames.{filled_want}

-- the number of a type of messages or enums
abbrev pub IsTypeNumber : ℤ → Type 0
IsTypeNumber n = (n ≡ pos 11) ⊎ (n ≡ pos 14)

pub has_number : (s : Sort) (n : ℤ) → HasType s n → IsTypeNumber n
has_number (message_sort xs rs) n h = inl h
has_number (enum_sort vs) n h = inr h
has_number service_sort n h = absurd h
has_number other_sort n h = absurd h

pub one_number : (s : Sort) (m n : ℤ) → HasType s m → HasType s n → m ≡ n
one_number (message_sort xs rs) m n h k = h ∙ sym k
one_number (enum_sort vs) m n h k = h ∙ sym k
one_number service_sort m n h k = absurd h
one_number other_sort m n h k = absurd h

-- the number of what a reference in a linked file means
abbrev pub type_in : Want → ℤ
type_in a_message = pos 11
type_in (a_type None) = pos 0
type_in (a_type (Some n)) = cond (int_eq n (pos 10)) (pos 11) n

number_in : (n : ℤ) → IsTypeNumber n → type_in (a_type (Some n)) ≡ n
number_in n (inl e) = subst (λ m. type_in (a_type (Some m)) ≡ m) (sym e) refl
number_in n (inr e) = subst (λ m. type_in (a_type (Some m)) ≡ m) (sym e) refl

pub type_is : (names : Reference → Target) (w : Want) (n : ℤ) → IsTypeNumber n → SuitsWant w n → type_in (filled_want names w n) ≡ n
type_is names a_message n h e = sym e
type_is names (a_type None) n h e = number_in n h
type_is names (a_type (Some m)) n h (inl e) = ap (λ k. type_in (a_type (Some k))) e ∙ number_in n h
type_is names (a_type (Some m)) n h (inr (e, f)) = ap (λ k. type_in (a_type (Some k))) e ∙ sym f

pub suits_filled : (names : Reference → Target) (w : Want) (n : ℤ) → SuitsWant w n → SuitsWant (filled_want names w n) n
suits_filled names a_message n e = e
suits_filled names (a_type None) n e = inl refl
suits_filled names (a_type (Some m)) n e = e

pub filled_typed : (names : Reference → Target) (w : Want) (n : ℤ) → IsTyped (filled_want names w n)
filled_typed names a_message n = tt
filled_typed names (a_type None) n = tt
filled_typed names (a_type (Some m)) n = tt

pub wanted_filled : (names : Reference → Target) (w : Want) (n : ℤ) (os : List Outline) (from : Outline) (full : Text) → IsWanted os from w full → IsWanted os from (filled_want names w n) full
wanted_filled names a_message n os from full h = h
wanted_filled names (a_type None) n os from full h = h
wanted_filled names (a_type (Some m)) n os from full h = h

same_text : (m n : Text) → m ≡ n → 1 ≤ cond (bytes_eq m n) 1 0
same_text m n e = let t : bytes_eq m n ≡ true = (bytes_eq-Decides m n).1 e in by (bytes_eq m n) t where
  by : (b : Bool) → b ≡ true → 1 ≤ cond b 1 0
  by true e = omega arith
  by false e = absurd (cc)

heads_named : (n : Text) (hs : List Head) → sum_by (λ h. cond (bytes_eq h.name n) 1 0) hs ≡ times n (map (λ h. h.name) hs)
heads_named n hs = sym (sum_map (λ (x : Text). cond (bytes_eq x n) 1 0) (λ (h : Head). h.name) hs)

named_once : (n : Text) (hs : List Head) (h : Head) → Contains hs h → h.name ≡ n → 1 ≤ times n (map (λ h. h.name) hs)
named_once n hs h i e =
    let one = same_text h.name n e in
    let some = sum_some (λ (h : Head). cond (bytes_eq h.name n) 1 0) hs h i in
    let is = heads_named n hs in
    omega arith

-- among files that are apart a full name is declared as one sort
pub one_sort : (us : List Outline) → AreApart us → (n : Text) (s t : Sort) → IsDeclared us n s → IsDeclared us n t → s ≡ t
one_sort us apart n s t (o, h, i, j, e, f) (p, k, l, m, g, q) =
    let o_is_p : o ≡ p = one_of (λ (o : Outline). times n (map (λ h. h.name) o.heads)) us o p (apart.names n) i l (named_once n o.heads h j e) (named_once n p.heads k m g) in
    let there : Contains o.heads k = subst (λ (x : Outline). Contains x.heads k) (sym o_is_p) m in
    let few : sum_by (λ h. cond (bytes_eq h.name n) 1 0) o.heads ≤ 1 =
    (let is = heads_named n o.heads in let some = sum_some (λ (o : Outline). times n (map (λ h. h.name) o.heads)) us o i in let all = apart.names n in omega arith) in
    let h_is_k : h ≡ k = one_of (λ (h : Head). cond (bytes_eq h.name n) 1 0) o.heads h k few j there (same_text h.name n e) (same_text k.name n g) in
    sym f ∙ ap (λ (x : Head). x.sort) h_is_k ∙ q
