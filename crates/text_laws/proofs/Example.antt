-- The premises of the laws can be met.
use Rattle.std.proofs.Common.{◌≡◌, inl, inr, ℕ, pos, ◌<◌, ◌^◌, ◌==◌, Bool, true, false, cond, [], Option, Some, None, bytes_eq, codes, refl, sym, subst, arith}
use Rattle.std.proofs.lemmas.Bool.Decides.{eqb_tells}
use Rattle.std.proofs.lemmas.Option.{none-some}
use Rattle.std.proofs.lemmas.Slice.Eq.{bytes_eq-Decides}
use Rattle.protobuf_model.specs.Types.{Name, Scalar, Key, one, keyed, Field, Types}
use Rattle.protobuf_model.specs.Types as kinds
use Rattle.protobuf_model.specs.Typed.{HasDefaults}
use Rattle.protobuf_model.specs.Values.{Single, int32, text, blob}
use Rattle.text_model.specs.Plain.{AreBytes}
use Rattle.text_model.specs.Schemas.{HoldsOne, Schema, key_part}
use Rattle.text_laws.specs.SoundTypes.{HasSoundTypes, HaveSmallDefaults, HoldsScalar}

-- message M { map<int32, string> m = 5; } message Any { string type_url = 1; bytes value = 2; }
abbrev type_m : Name
type_m = codes "M"

abbrev type_entry : Name
type_entry = codes "M.MEntry"

abbrev holds : Scalar → Single → Option Field
holds k d = Some (record { part = record { kind = kinds.scalar k; presence = false; default = d }; label = one; oneof = None; extension = false })

abbrev texts : Option Field
texts = Some (record {
  part = record { kind = kinds.scalar kinds.string; presence = false; default = text [] };
  label = keyed (record { kind = kinds.int32; presence = false; default = int32 (pos 0) });
  oneof = None;
  extension = false;
})

abbrev types : Types
types t n = cond (bytes_eq t type_m) (cond (n == 5) texts None)
    (cond (bytes_eq t type_entry) (cond (n == 1) (holds kinds.int32 (int32 (pos 0))) (cond (n == 2) (holds kinds.string (text [])) None))
    (cond (n == 1) (holds kinds.string (text [])) (cond (n == 2) (holds kinds.bytes (blob [])) None)))

abbrev schema : Schema
schema = record {
  types = types;
  names = λ t. record { field = λ w. None; extension = λ w. None; name = λ n. []; declared = []; enum_number = λ n w. None; enum_name = λ n z. None; entry = λ n. type_entry };
  message = λ w. None;
  is_any = λ t. bytes_eq t (codes "Any");
  decoded = λ t bytes. None;
}

-- what holds where there is a field
abbrev OfField : (ℕ → Field → Type 0) → ℕ → Option Field → Type 0
OfField Q n None = Unit {0}
OfField Q n (Some f) = Q n f

at : (P : ℕ → Option Field → Type 0) (n k : ℕ) (o p : Option Field) → P k o → P n p → P n (cond (n == k) o p)
at P n k o p here there = elim (eqb_tells n k) [
  | inl e ↦ subst (λ b. P n (cond b o p)) (sym e.0) (subst (λ q. P q o) (sym e.1) here)
  | inr e ↦ subst (λ b. P n (cond b o p)) (sym e.0) there
]

either : (P : Option Field → Type 0) (b : Bool) (o p : Option Field) → P o → P p → P (cond b o p)
either P true o p h k = h
either P false o p h k = k

-- what holds of a number without a field and of each field holds under each number of each type
each_field : (P : ℕ → Option Field → Type 0) → ((n : ℕ) → P n None) → P 5 texts → P 1 (holds kinds.int32 (int32 (pos 0))) → P 2 (holds kinds.string (text [])) → P 1 (holds kinds.string (text [])) → P 2 (holds kinds.bytes (blob []))
    → (t : Name) (n : ℕ) → P n (types t n)
each_field P none m key word link body t n =
    either (P n) (bytes_eq t type_m) _ _ (at P n 5 _ _ m (none n))
    (either (P n) (bytes_eq t type_entry) _ _ (at P n 1 _ _ key (at P n 2 _ _ word (none n)))
    (at P n 1 _ _ link (at P n 2 _ _ body (none n))))

of_field : (Q : ℕ → Field → Type 0) (n : ℕ) (o : Option Field) (f : Field) → OfField Q n o → o ≡ Some f → Q n f
of_field Q n o f h e = subst (OfField Q n) e h

-- a map has the entries of M's map
abbrev HasEntries : Field → Type 0
HasEntries f = (key : Key) → f.label ≡ keyed key → HoldsOne (key_part key) (types type_entry 1) × HoldsOne f.part (types type_entry 2)

one_map : (key : Key) → record { kind = kinds.int32; presence = false; default = int32 (pos 0) } ≡ key → HoldsOne (key_part key) (types type_entry 1)
one_map key e = subst (λ k. HoldsOne (key_part k) (types type_entry 1)) e (None, false, refl)

sound : HasSoundTypes schema
sound = record {
  defaults = each_field (λ n o. HasDefaults o) (λ n. tt) (record { sfits = omega arith }, ([], (refl, refl))) tt tt tt tt;
  numbers = λ t n f. of_field (λ n f. (0 < n) × (n < 2 ^ 29)) n (types t n) f
      (each_field (OfField (λ n f. (0 < n) × (n < 2 ^ 29))) (λ n. tt) (omega arith, omega arith) (omega arith, omega arith) (omega arith, omega arith) (omega arith, omega arith) (omega arith, omega arith) t n);
  enums = λ t n v z e. absurd (none-some z e);
  entries = λ t n f key has is. of_field (λ n f. HasEntries f) n (types t n) f
      (each_field (OfField (λ n f. HasEntries f)) (λ n. tt) (λ k e. (one_map k (cc), (None, false, refl))) (λ k e. absurd (cc)) (λ k e. absurd (cc)) (λ k e. absurd (cc)) (λ k e. absurd (cc)) t n) has key is;
  any = λ t e. subst (λ t. HoldsScalar kinds.string (types t 1) × HoldsScalar kinds.bytes (types t 2)) (sym ((bytes_eq-Decides t (codes "Any")).0 e)) ((_, refl, (None, false, refl)), (_, refl, (None, false, refl)));
}

-- and the defaults of its map hold bytes
small : HaveSmallDefaults types
small t n f key has is = of_field (λ n f. (key : Key) → f.label ≡ keyed key → AreBytes key.default × AreBytes f.part.default) n (types t n) f
    (each_field (OfField (λ n f. (key : Key) → f.label ≡ keyed key → AreBytes key.default × AreBytes f.part.default)) (λ n. tt)
    (λ k e. (subst (λ (k : Key). AreBytes k.default) (let same : record { kind = kinds.int32; presence = false; default = int32 (pos 0) } ≡ k = cc in same) tt, tt))
    (λ k e. absurd (cc)) (λ k e. absurd (cc)) (λ k e. absurd (cc)) (λ k e. absurd (cc)) t n) has key is
