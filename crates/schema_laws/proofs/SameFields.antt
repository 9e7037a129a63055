-- The field of a number, in types of two pools that say the same to texts.
use Rattle.std.proofs.Common.{◌≡◌, ◌∙◌, ℕ, Bool, false, cond, true≢false, Option, Some, None, unwrap_or, ap, refl, sym}
use Rattle.std.specs.Option.{option_and_then}
use Rattle.message_view.proofs.Fields.{held_is}
use Rattle.message_view.specs.Types.{either_field, field_at, field_of, oneof_at}
use Rattle.protobuf_model.specs.Types.{Field}
use Rattle.reflect_message.specs.Known.{if_held, holds_floats, known_extension, known_field, numbered_field}
use Rattle.reflect_print.specs.Named.{label_of}
use Rattle.reflect_tables.specs.Types.{FieldType, PoolType}
use Rattle.text_model.specs.Schemas.{Shape}
use Rattle.text_view.specs.Names.{names_of, printed_name}
use Rattle.text_view.specs.Schemas.{shape_at}

-- a field that holds no floating-point numbers is known, and what is known is a field
pub whole_known : (pool : PoolType) (i n : ℕ) (f : FieldType) → numbered_field pool i n ≡ Some f → holds_floats pool f ≡ false → known_field pool i n ≡ Some f
whole_known pool i n f is whole = ap (option_and_then (if_held pool)) is ∙ ap (λ b. cond b None (Some f)) whole

known_numbered : (pool : PoolType) (i n : ℕ) (g : FieldType) → known_field pool i n ≡ Some g → numbered_field pool i n ≡ Some g
known_numbered pool i n g known = by (numbered_field pool i n) refl where
  by : (o : Option FieldType) → numbered_field pool i n ≡ o → numbered_field pool i n ≡ Some g
  by None e = absurd (cc (sym (ap (option_and_then (if_held pool)) e) ∙ known))
  by (Some h) e = e ∙ ap Some (held_is pool h g (sym (ap (option_and_then (if_held pool)) e) ∙ known)).1

-- whether what stands under a number is an extension
abbrev is_extension : Option Field → Bool
is_extension None = false
is_extension (Some f) = f.extension

-- the name that a field is printed under
printed : (pool : PoolType) (i n : ℕ) (f : FieldType) → known_field pool i n ≡ Some f → (names_of pool i).name n ≡ label_of pool f
printed pool i n f is = ap (λ o. printed_name pool o (known_extension pool i n)) is

-- the other type has a field of the number that says the same
pub record SameField (p q : PoolType) (i k n : ℕ) (f : FieldType) : Type 0 where
  pub field : FieldType
  pub there : numbered_field q k n ≡ Some field
  pub said : field_of q (oneof_at q k field) false field ≡ field_of p (oneof_at p i f) false f
  pub name : label_of q field ≡ label_of p f

module _ (p q : PoolType) (i k n : ℕ) (alike : shape_at p i ≡ shape_at q k) (f : FieldType) (is : known_field p i n ≡ Some f) where
  mine : field_at q k n ≡ Some (field_of p (oneof_at p i f) false f)
  mine = sym (ap (λ (s : Shape). s.fields n) alike) ∙ ap (λ o. either_field p i o (known_extension p i n)) is

  pub same_field : SameField p q i k n f
  same_field = by (known_field q k n) refl (known_extension q k n) refl where
    at : (o x : Option FieldType) → known_field q k n ≡ o → known_extension q k n ≡ x → either_field q k o x ≡ Some (field_of p (oneof_at p i f) false f)
    at o x e also = sym (ap (λ g. either_field q k g (known_extension q k n)) e ∙ ap (either_field q k o) also) ∙ mine

    by : (o : Option FieldType) → known_field q k n ≡ o → (x : Option FieldType) → known_extension q k n ≡ x → SameField p q i k n f
    by (Some g) e x also = record {
      field = g;
      there = known_numbered q k n g e;
      said = ap (λ (o : Option Field). unwrap_or o (field_of p (oneof_at p i f) false f)) (at (Some g) x e also);
      name = sym (printed q k n g e) ∙ sym (ap (λ (s : Shape). s.names.name n) alike) ∙ printed p i n f is;
    }
    by None e (Some x) also = absurd (true≢false (ap is_extension (at None (Some x) e also)))
    by None e None also = absurd (cc (at None None e also))
