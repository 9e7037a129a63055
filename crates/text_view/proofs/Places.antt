-- Where the fields and the extensions that messages hold stand, and what is found by their names.
use Rattle.std.proofs.Common.{◌≡◌, ◌<◌, ◌==◌, ◌&&◌, ℕ, Bool, true, false, cond, length, map, Option, Some, None, unwrap_or, refl, sym, ap, ◌∙◌, subst}
use Rattle.std.proofs.lemmas.Bool.{and_parts}
use Rattle.std.specs.Prelude.{bytes_eq}
use Rattle.std.specs.Char.{to_ascii_lowercase}
use Rattle.std.specs.List.{find}
use Rattle.std.specs.Option.{option_and_then}
use Rattle.std.proofs.lemmas.Slice.Eq.{bytes_eq-Decides}
use Rattle.protox_lex.specs.Class.{Text}
use Rattle.reflect_tables.specs.Types.{PoolType, FieldType, ExtensionType, type_at, type_of_field, no_field, extension_at, no_extension}
use Rattle.reflect_tables.specs.Types as types
use Rattle.reflect_scalar.proofs.First.{Tells, find_place}
use Rattle.reflect_message.specs.Known.{if_held, known_field, known_extension, numbered_field}
use Rattle.reflect_print.specs.Named.{label_of, type_name}
use Rattle.message_view.proofs.Fields.{held_is}
use Rattle.text_view.specs.Names.{first_called, if_plain, is_type_called, if_group_called, held_or, field_called}
use Rattle.text_view.specs.SourceNames.{HaveOwnNames, IsGroupField, HasSourceNames}
use Rattle.text_view.proofs.Apart.{only_one}
use Rattle.text_view.proofs.Called.{called}
use Rattle.text_view.proofs.Puts.{is_number, number_is}
use Rattle.reflect_message.proofs.Known.{numbered}

pub record FieldPlace (pool : PoolType) (i n : ℕ) (g : FieldType) : Type 0 where
  pub place : ℕ
  pub there : place < length (type_at pool i).fields
  pub field : type_of_field pool i place ≡ g
  pub number : g.number ≡ n
  pub held : if_held pool g ≡ Some g

pub record ExtensionPlace (pool : PoolType) (i n : ℕ) (g : FieldType) : Type 0 where
  pub place : ℕ
  pub there : place < length pool.extensions
  pub field : (extension_at pool place).field ≡ g
  pub extendee : (extension_at pool place).extendee ≡ i
  pub number : g.number ≡ n
  pub held : if_held pool g ≡ Some g

held_itself : (pool : PoolType) (h g : FieldType) → if_held pool h ≡ Some g → if_held pool g ≡ Some g
held_itself pool h g e = subst (λ x. if_held pool x ≡ Some g) (held_is pool h g e).1 e

pub field_place : (pool : PoolType) (i n : ℕ) (g : FieldType) → known_field pool i n ≡ Some g → FieldPlace pool i n g
field_place pool i n g e = by (numbered_field pool i n) refl where
  by : (o : Option FieldType) → numbered_field pool i n ≡ o → FieldPlace pool i n g
  by None is = absurd (cc (sym (ap (option_and_then (if_held pool)) is) ∙ e))
  by (Some h) is =
      let kept : if_held pool h ≡ Some g = sym (ap (option_and_then (if_held pool)) is) ∙ e in
      let same = (held_is pool h g kept).1 in
      let at = find_place (λ (f : FieldType). f.number ≡ n) (λ f. f.number == n) (numbered n) (type_at pool i).fields h is in
      let there : type_of_field pool i at.0 ≡ h = ap (λ o. unwrap_or o h) (sym (at.2 no_field) ∙ is) in
      record {
        place = at.0;
        there = at.1.0;
        field = there ∙ same;
        number = ap (λ (f : FieldType). f.number) (sym (there ∙ same)) ∙ at.1.1.0 no_field;
        held = held_itself pool h g kept;
      }

-- an extension of a message under a number
abbrev Extends : ℕ → ℕ → ExtensionType → Type 0
Extends i n x = (x.extendee ≡ i) × (x.field.number ≡ n)

extends_told : (i n : ℕ) → Tells (Extends i n) (λ (x : ExtensionType). (x.extendee == i) && (x.field.number == n))
extends_told i n = record {
  says = λ x e. let two = and_parts (x.extendee == i) (x.field.number == n) e in (is_number x.extendee i two.0, is_number x.field.number n two.1);
  passes = λ x h. ap (λ b. b && (x.field.number == n)) (number_is x.extendee i h.0) ∙ number_is x.field.number n h.1;
}

pub extension_place : (pool : PoolType) (i n : ℕ) (g : FieldType) → known_extension pool i n ≡ Some g → ExtensionPlace pool i n g
extension_place pool i n g e = by (find test pool.extensions) refl where
  test : ExtensionType → Bool
  test x = (x.extendee == i) && (x.field.number == n)

  by : (o : Option ExtensionType) → find test pool.extensions ≡ o → ExtensionPlace pool i n g
  by None is = absurd (cc (sym (ap (option_and_then (λ (x : ExtensionType). if_held pool x.field)) is) ∙ e))
  by (Some x) is =
      let kept : if_held pool x.field ≡ Some g = sym (ap (option_and_then (λ (x : ExtensionType). if_held pool x.field)) is) ∙ e in
      let same = (held_is pool x.field g kept).1 in
      let at = find_place (Extends i n) test (extends_told i n) pool.extensions x is in
      let there : extension_at pool at.0 ≡ x = ap (λ o. unwrap_or o x) (sym (at.2 no_extension) ∙ is) in
      let has = at.1.1.0 no_extension in
      record {
        place = at.0;
        there = at.1.0;
        field = ap (λ (y : ExtensionType). y.field) there ∙ same;
        extendee = has.0;
        number = sym (ap (λ (f : FieldType). f.number) (ap (λ (y : ExtensionType). y.field) there ∙ same)) ∙ has.1;
        held = held_itself pool x.field g kept;
      }

-- ---- by their names

-- where names are distinct a field is found by its name
first_named : (pool : PoolType) → HaveOwnNames pool → (i k : ℕ) → k < length (type_at pool i).fields → (v : Text) → (type_of_field pool i k).name ≡ v
    → first_called pool i v ≡ Some (type_of_field pool i k)
first_named pool distinct i k lt v e =
    only_one (λ (g : FieldType). g.name ≡ v) (λ g. bytes_eq g.name v) (called v) (type_at pool i).fields no_field k lt e
    (λ j less h. distinct.fields i j k less lt (h ∙ sym e))

-- so is one that is no group, if messages hold it
pub plain_called : (pool : PoolType) → HaveOwnNames pool → (i k : ℕ) → k < length (type_at pool i).fields → (v : Text) → (type_of_field pool i k).name ≡ v
    → (type_of_field pool i k).group ≡ false → if_held pool (type_of_field pool i k) ≡ Some (type_of_field pool i k) → field_called pool i v ≡ Some (type_of_field pool i k)
plain_called pool distinct i k lt v named plain held =
    let g = type_of_field pool i k in
    let groups = option_and_then (if_group_called pool v) (first_called pool i (map to_ascii_lowercase v)) in
    ap (λ o. held_or pool (option_and_then if_plain o) (option_and_then (if_group_called pool v) (first_called pool i (map to_ascii_lowercase v)))) (first_named pool distinct i k lt v named)
    ∙ ap (λ b. held_or pool (cond b None (Some (type_of_field pool i k))) (option_and_then (if_group_called pool v) (first_called pool i (map to_ascii_lowercase v)))) plain
    ∙ held

-- and a group by the name of its type
group_called : (pool : PoolType) → HaveOwnNames pool → (i k : ℕ) → k < length (type_at pool i).fields → (type_of_field pool i k).group ≡ true → (g : IsGroupField pool i (type_of_field pool i k))
    → field_called pool i (type_at pool g.place).name ≡ Some (type_of_field pool i k)
group_called pool distinct i k lt group g =
    ap (λ o. held_or pool o groups) no_plain
    ∙ ap (option_and_then (if_group_called pool v)) (first_named pool distinct i k lt (map to_ascii_lowercase v) g.lower)
    ∙ ap (λ b. cond (b && is_type_called pool v f.kind) (Some f) None) group
    ∙ ap (λ t. cond (is_type_called pool v t) (Some f) None) g.kind
    ∙ ap (λ b. cond b (Some f) None) ((bytes_eq-Decides v v).1 refl) where
      f : FieldType
      f = type_of_field pool i k

      v : Text
      v = (type_at pool g.place).name

      groups : Option FieldType
      groups = option_and_then (if_group_called pool v) (first_called pool i (map to_ascii_lowercase v))

      no_plain : option_and_then if_plain (first_called pool i v) ≡ None
      no_plain = by (first_called pool i v) refl where
        by : (o : Option FieldType) → first_called pool i v ≡ o → option_and_then if_plain (first_called pool i v) ≡ None
        by None is = ap (option_and_then if_plain) is
        by (Some h) is =
            let at = find_place (λ (x : FieldType). x.name ≡ v) (λ x. bytes_eq x.name v) (called v) (type_at pool i).fields h is in
            let there : type_of_field pool i at.0 ≡ h = ap (λ o. unwrap_or o h) (sym (at.2 no_field) ∙ is) in
            ap (option_and_then if_plain) is
            ∙ ap (λ b. cond b None (Some h)) (ap (λ (x : FieldType). x.group) (sym there) ∙ grouped at.0 at.1.0 (at.1.1.0 no_field) ((type_of_field pool i at.0).group) refl) where
              grouped : (j : ℕ) → j < length (type_at pool i).fields → (type_of_field pool i j).name ≡ v → (b : Bool) → (type_of_field pool i j).group ≡ b → (type_of_field pool i j).group ≡ true
              grouped j less named true e = e
              grouped j less named false e = absurd (g.own j less e named)

-- a field is found by the name that it is printed under
pub plain_label : (pool : PoolType) (f : FieldType) → f.group ≡ false → label_of pool f ≡ f.name
plain_label pool f e = ap (λ b. cond b (type_name pool f.kind f.name) f.name) e

pub group_label : (pool : PoolType) (f : FieldType) (c : ℕ) → f.group ≡ true → f.kind ≡ types.message c → label_of pool f ≡ (type_at pool c).name
group_label pool f c e kind = ap (λ b. cond b (type_name pool f.kind f.name) f.name) e ∙ ap (λ t. type_name pool t f.name) kind

pub label_called : (pool : PoolType) → HasSourceNames pool → (i n : ℕ) (g : FieldType) → FieldPlace pool i n g → field_called pool i (label_of pool g) ≡ Some g
label_called pool spelled i n g at = subst (λ f. field_called pool i (label_of pool f) ≡ Some f) at.field (by (type_of_field pool i at.place).group refl) where
  f : FieldType
  f = type_of_field pool i at.place

  held : if_held pool (type_of_field pool i at.place) ≡ Some (type_of_field pool i at.place)
  held = subst (λ x. if_held pool x ≡ Some x) (sym at.field) at.held

  by : (b : Bool) → (type_of_field pool i at.place).group ≡ b → field_called pool i (label_of pool (type_of_field pool i at.place)) ≡ Some (type_of_field pool i at.place)
  by false plain = ap (field_called pool i) (plain_label pool f plain) ∙ plain_called pool spelled.distinct i at.place at.there f.name refl plain held
  by true group =
      let its = spelled.groups i at.place at.there group in
      ap (field_called pool i) (group_label pool f its.place group its.kind) ∙ group_called pool spelled.distinct i at.place at.there group its
