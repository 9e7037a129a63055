-- The type that keeps a message of any type, told by a test.
use Rattle.std.proofs.Common.{◌≡◌, ◌↔◌, ℕ, ◌&&◌, not, Bool, true, false, Option, Some, None, refl, ap, ◌∙◌}
use Rattle.std.proofs.lemmas.Bool.{and_from, and_parts}
use Rattle.std.specs.Prelude.{codes}
use Rattle.std.specs.Str.{bytes_eq}
use Rattle.std.proofs.lemmas.Slice.Eq.{bytes_eq-Decides}
use Rattle.reflect_tables.specs.Types.{PoolType, FieldType, KindType, type_at}
use Rattle.reflect_tables.specs.Types as types
use Rattle.reflect_pool.specs.Shapes.{holds_list, holds_map}
use Rattle.reflect_pool.specs.declared.message.MessageDescriptor.{MessageDescriptor}
use Rattle.reflect_any.specs.Any.{shares, StandsAlone, IsLone, IsAny}
use Rattle.reflect_message.specs.Known.{numbered_field}
use Rattle.text_view.specs.Schemas.{is_string, is_bytes, is_lone, is_any_at}

not_so : (b : Bool) → not b ≡ true → b ≡ false
not_so true e = absurd (cc e)
not_so false e = refl

string_is : (k : KindType) → is_string k ≡ true → k ≡ types.string
string_is types.string e = refl
string_is k e = absurd (cc e)

bytes_is : (k : KindType) → is_bytes k ≡ true → k ≡ types.bytes
bytes_is types.bytes e = refl
bytes_is k e = absurd (cc e)

module _ (pool : PoolType) (i : ℕ) (kind : KindType) (test : KindType → Bool) where
  lone_told : test kind ≡ true → (o : Option FieldType) → IsLone pool i kind o → is_lone pool i test o ≡ true
  lone_told is None h = absurd h
  lone_told is (Some f) h =
      and_from (test f.kind) (not (holds_list pool f) && (not (holds_map pool f) && not (shares pool i f))) (ap test h.0 ∙ is)
      (and_from (not (holds_list pool f)) (not (holds_map pool f) && not (shares pool i f)) (ap not h.1.0)
      (and_from (not (holds_map pool f)) (not (shares pool i f)) (ap not h.1.1) (ap not h.1.2)))

  told_lone : ((k : KindType) → test k ≡ true → k ≡ kind) → (o : Option FieldType) → is_lone pool i test o ≡ true → IsLone pool i kind o
  told_lone only None e = absurd (cc e)
  told_lone only (Some f) e =
      let one = and_parts (test f.kind) (not (holds_list pool f) && (not (holds_map pool f) && not (shares pool i f))) e in
      let two = and_parts (not (holds_list pool f)) (not (holds_map pool f) && not (shares pool i f)) one.1 in
      let three = and_parts (not (holds_map pool f)) (not (shares pool i f)) two.1 in
      let alone : StandsAlone pool i f = (not_so (holds_list pool f) two.0, not_so (holds_map pool f) three.0, not_so (shares pool i f) three.1) in
      (only f.kind one.0, alone)

module _ (m : MessageDescriptor) where
  pub any_told : IsAny m → is_any_at m.pool.now m.index ≡ true
  any_told h =
      and_from (bytes_eq (type_at m.pool.now m.index).full_name (codes "google.protobuf.Any"))
      (is_lone m.pool.now m.index is_string (numbered_field m.pool.now m.index 1) && is_lone m.pool.now m.index is_bytes (numbered_field m.pool.now m.index 2))
      ((bytes_eq-Decides (type_at m.pool.now m.index).full_name (codes "google.protobuf.Any")).1 h.0)
      (and_from (is_lone m.pool.now m.index is_string (numbered_field m.pool.now m.index 1)) (is_lone m.pool.now m.index is_bytes (numbered_field m.pool.now m.index 2))
      (lone_told m.pool.now m.index types.string is_string refl (numbered_field m.pool.now m.index 1) h.1)
      (lone_told m.pool.now m.index types.bytes is_bytes refl (numbered_field m.pool.now m.index 2) h.2))

  pub told_any : is_any_at m.pool.now m.index ≡ true → IsAny m
  told_any e =
      let one = and_parts (bytes_eq (type_at m.pool.now m.index).full_name (codes "google.protobuf.Any"))
      (is_lone m.pool.now m.index is_string (numbered_field m.pool.now m.index 1) && is_lone m.pool.now m.index is_bytes (numbered_field m.pool.now m.index 2)) e in
      let two = and_parts (is_lone m.pool.now m.index is_string (numbered_field m.pool.now m.index 1)) (is_lone m.pool.now m.index is_bytes (numbered_field m.pool.now m.index 2)) one.1 in (
        (bytes_eq-Decides (type_at m.pool.now m.index).full_name (codes "google.protobuf.Any")).0 one.0,
        told_lone m.pool.now m.index types.string is_string string_is (numbered_field m.pool.now m.index 1) two.0,
        told_lone m.pool.now m.index types.bytes is_bytes bytes_is (numbered_field m.pool.now m.index 2) two.1,
      )

  pub any_is : (is_any_at m.pool.now m.index ≡ true) ↔ IsAny m
  any_is = (told_any, any_told)
