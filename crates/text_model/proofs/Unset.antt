-- What is printed of a field that is not set leaves it so.
use Rattle.std.proofs.Common.{◌≡◌, ◌⊎◌, inl, inr, ℕ, ℤ, pos, negsuc, ◌==◌, ◌&&◌, ◌||◌, not, Bool, true, false, cond, [], ◌++◌, Option, None, Some, option_map, option_and_then, refl, sym, ap, ◌∙◌}
use Rattle.std.proofs.lemmas.Bool.{eq-eqb, not-true}
use Rattle.std.proofs.lemmas.Bool.Decides.{eqb_tells}
use Rattle.std.proofs.lemmas.Slice.Eq.{bytes_eq-Decides}
use mathlib.Core.Bool.{and-false}
use mathlib.Core.Path.{fun_ext}
use Rattle.protobuf_model.specs.Values.{Single, truth, int32, int64, uint32, uint64, text, blob, enumerated, single, content, Message, absent}
use Rattle.protobuf_model.specs.Types.{Kind, scalar, nested, Part, Label, one, many, keyed, Field, oneof_of, same_oneof, rival}
use Rattle.protobuf_model.specs.Scalars.{same, same_int}
use Rattle.protobuf_model.specs.Meaning.{items, if_any, pairs, if_some, put_all}
use Rattle.text_model.specs.Schemas.{Schema, Shape}
use Rattle.text_model.specs.Value.{assign, settled, set_one, field_value}
use Rattle.text_model.specs.Printed.{lacks_presence, default_given, printed_single}
use Rattle.text_model.specs.Tree.{one_scalar}
use Rattle.text_model.specs.Unset.{IsOfKind, HasReadDefault}
use Rattle.text_model.proofs.Contents.{set_back}
use Rattle.text_model.proofs.Orders.{true_false}
use Rattle.text_model.proofs.Rivals.{no_rival}
use Rattle.text_model.proofs.Singles.{AreFound, single_back}

-- ---- a default is not set

int_itself : (z : ℤ) → same_int z z ≡ true
int_itself (pos n) = eq-eqb n n refl
int_itself (negsuc n) = eq-eqb n n refl

same_itself : (v : Single) → same v v ≡ true
same_itself (truth true) = refl
same_itself (truth false) = refl
same_itself (int32 z) = int_itself z
same_itself (int64 z) = int_itself z
same_itself (uint32 n) = eq-eqb n n refl
same_itself (uint64 n) = eq-eqb n n refl
same_itself (text t) = (bytes_eq-Decides t t).1 refl
same_itself (blob b) = (bytes_eq-Decides b b).1 refl
same_itself (enumerated z) = int_itself z

default_unset : (part : Part) → part.presence ≡ false → settled part (single part.default) ≡ absent
default_unset part e =
    ap (λ b. cond (b || not (same part.default part.default)) (content (single part.default)) absent) e
    ∙ ap (λ b. cond (not b) (content (single part.default)) absent) (same_itself part.default)

-- ---- a field in no oneof

module _ (type : ℕ → Option Field) (n : ℕ) (alone : oneof_of (type n) ≡ None) where
  none_shared : (o : Option ℕ) → same_oneof None o ≡ false
  none_shared None = refl
  none_shared (Some k) = refl

  pub no_sibling : (q : ℕ) → rival type n q ≡ false
  no_sibling q =
      ap (λ o. not (q == n) && same_oneof o (oneof_of (type q))) alone
      ∙ ap (λ b. not (q == n) && b) (none_shared (oneof_of (type q)))
      ∙ and-false (not (q == n))

  -- nothing is put where nothing is
  nothing_put : (x : Message) → x n ≡ absent → assign type n absent x ≡ x
  nothing_put x here = fun_ext (λ q. by q (eqb_tells q n)) where
    by : (q : ℕ) → (((q == n) ≡ true) × (q ≡ n)) ⊎ (((q == n) ≡ false) × (q ≡ n → ⊥)) → assign type n absent x q ≡ x q
    by q (inl k) = ap (λ b. cond b absent (cond (rival type n q) absent (x q))) k.0 ∙ sym here ∙ sym (ap x k.1)
    by q (inr k) = ap (λ b. cond b absent (cond (rival type n q) absent (x q))) k.0 ∙ ap (λ b. cond b absent (x q)) (no_sibling q)

-- ---- what is given to such a field

module _ (w : Schema) (s : Shape) (n : ℕ) (alone : oneof_of (s.fields n) ≡ None) (found : AreFound (s.names.enum_number n) (s.names.enum_name n)) (o : Option ℕ) (e : Bool) (x : Message) (here : x n ≡ absent) where
  single_unset : (k : Kind) (p : Bool) (d : Single) → not p ≡ true → IsOfKind k d
      → field_value w s (one_scalar (printed_single (s.names.enum_name n) d)) x n (record { part = record { kind = k; presence = p; default = d }; label = one; oneof = o; extension = e }) ≡ Some x
  single_unset (scalar k) p d lacks suits =
      let part : Part = record { kind = scalar k; presence = p; default = d } in
      ap (λ y. option_and_then (set_one s.fields n part x) (option_map single y)) (single_back (s.names.enum_number n) (s.names.enum_name n) k d found suits.1 suits.0)
      ∙ set_back s.fields n part x (single d) here (no_rival s.fields n x (λ q r. absurd (true_false (rival s.fields n q) r (no_sibling s.fields n alone q))))
      ∙ ap (λ h. Some (assign s.fields n h x)) (default_unset part (not-true p lacks))
      ∙ ap Some (nothing_put s.fields n alone x here)
  single_unset (nested frame u) p d lacks suits = absurd suits

  -- it gives what there is
  pub unset_back : (part : Part) (l : Label) → lacks_presence part l ≡ true → HasReadDefault part l
      → field_value w s (default_given (s.names.enum_name n) part l) x n (record { part = part; label = l; oneof = o; extension = e }) ≡ Some x
  unset_back part one lacks suits = single_unset part.kind part.presence part.default lacks suits
  unset_back part (many packed) lacks suits =
      ap (λ h. Some (assign s.fields n (if_any (items h ++ [])) x)) here ∙ ap Some (nothing_put s.fields n alone x here)
  unset_back part (keyed key) lacks suits =
      ap (λ h. Some (assign s.fields n (if_some (put_all (pairs h) [])) x)) here ∙ ap Some (nothing_put s.fields n alone x here)
