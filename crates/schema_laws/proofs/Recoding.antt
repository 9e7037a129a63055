-- What schemas decode and recode is what the model's types do.
use Rattle.std.proofs.Common.{◌≡◌, ◌<◌, ◌^◌, ◌∙◌, ◌↔◌, ℕ, List, [], ◌∷◌, length, map, ap, sym, subst}
use Rattle.protobuf_model.specs.Bytes.{bytes_of}
use Rattle.protobuf_model.specs.Coded.{AreOlderThan, IsAccepted, IsRecoded, IsRecodedThrough, Mean}
use Rattle.protobuf_model.specs.Older.{IsOlder}
use Rattle.protobuf_model.specs.Typed.{HaveDefaults}
use Rattle.protobuf_model.specs.Types.{Name, Types}
use Rattle.protobuf_model.specs.Values.{Message, nothing}
use Rattle.protobuf_model.proofs.Bytewise.{bytes_mean, merged_well, one_meaning}
use Rattle.protobuf_model.proofs.Chains.{accepted_by_older, one_normal_form as equal_where_meant, passes, same_as_direct}
use Rattle.protobuf_model.proofs.Merging.{nothing_typed}
use Rattle.reflect_pool.specs.Dots.{without_dot}
use Rattle.reflect_pool.specs.declared.message.MessageDescriptor.{MessageDescriptor}
use Rattle.reflect_tables.specs.Types.{PoolType}
use Rattle.reflect_wire.specs.Written.{AreBytes}
use Rattle.reflect_wire.specs.declared.wire_error.WireError.{WireError}
use Rattle.message_view.specs.Recoded.{Recodes}
use Rattle.message_view.specs.Sound.{IsSound}
use Rattle.message_view.specs.Types.{name_at, types_of}
use Rattle.message_view.proofs.Decoded.{decoded_means, told_refused}
use Rattle.message_view.proofs.Defaults.{have_defaults}
use Rattle.message_view.proofs.Recoded.{found_named, recodes_named}
use Rattle.schema_core.specs.Payloads.{Decoded, Recoded}
use Rattle.schema_core.specs.Refusals.{IsNoMessage}
use Rattle.schema_laws.specs.Schemas.{SchemaType, type_of, RecodedThrough}

pub accepted : (p : PoolType) → IsSound p → (name bytes text : List ℕ) → AreBytes bytes
    → Decoded p name bytes text → IsAccepted (types_of p) (without_dot name) bytes
accepted p sound name bytes text b (m, (d, (there, found), type, apart, spelled), printed) =
    let means = decoded_means d (subst IsSound (sym there) sound) bytes b m type spelled in
    subst (λ n. IsAccepted (types_of p) n bytes) (found_named d p name found)
    (subst (λ p. IsAccepted (types_of p) (name_at p d.index) bytes) there (means.0, means.1))

-- what a schema refuses as a message of a known type
pub refused : (p : PoolType) → IsSound p → (name bytes : List ℕ) (e : WireError)
    → IsNoMessage p name bytes e → IsAccepted (types_of p) (without_dot name) bytes → ⊥
refused p sound name bytes e (d, (there, found), other, told) h =
    let named = subst (λ n. IsAccepted (types_of p) n bytes) (sym (found_named d p name found)) h in
    told_refused d (subst IsSound (sym there) sound) bytes e other told
    (subst (λ p. IsAccepted (types_of p) (name_at p d.index) bytes) (sym there) named)

-- what a schema recodes, as decoding by its type and encoding
abbrev as_recoded : (p : PoolType) (name bytes out : List ℕ) → Recoded p name bytes out → (d : MessageDescriptor) × Recodes d bytes out
as_recoded p name bytes out (m, read, written) = (
  read.0,
  record {
    message = m;
    type = read.2;
    decoded = read.4;
    encoded = sym written;
  },
)

pub recodes : (p : PoolType) → IsSound p → (name bytes out : List ℕ) → AreBytes bytes → Recoded p name bytes out → IsRecoded (types_of p) (without_dot name) bytes out
recodes p sound name bytes out b h = recodes_named p name h.1.0 sound h.1.1.0 h.1.1.1 bytes out b (as_recoded p name bytes out h).1

-- what a type writes again it accepts
pub recoded_accepted : (p : PoolType) → IsSound p → (name bytes out : List ℕ) → AreBytes bytes → Recoded p name bytes out → IsAccepted (types_of p) (without_dot name) bytes
recoded_accepted p sound name bytes out b h = let r = recodes p sound name bytes out b h in (r.1.0, r.1.1)

-- an older schema refuses nothing that the type of the newer accepts
pub takes_older : (old new : SchemaType)
    → IsOlder (types_of old.0.pool) (without_dot old.1) (types_of new.0.pool) (without_dot new.1)
    → (bytes : List ℕ) → IsAccepted (types_of new.0.pool) (without_dot new.1) bytes
    → (e : WireError) → IsNoMessage old.0.pool old.1 bytes e → ⊥
takes_older old new older bytes h e none =
    refused old.0.pool old.0.sound old.1 bytes e none
    (accepted_by_older (types_of old.0.pool) (types_of new.0.pool) (without_dot old.1) (without_dot new.1) bytes older h)

pub defaults : (p : PoolType) → IsSound p → HaveDefaults (types_of p)
defaults p sound = have_defaults p sound.keys sound.defaults

-- what a type writes again of bytes means what they do
recoded_means : (types : Types) → HaveDefaults types → (t : Name) (bytes out : List ℕ) → IsRecoded types t bytes out → length out < 2 ^ 64 → (m : Message) → Mean types t bytes m → Mean types t out m
recoded_means types d t bytes out r short m means =
    let same : r.0 ≡ m = one_meaning types t nothing bytes r.0 m r.1 means in
    let its : bytes_of types t m ≡ out = sym (ap (bytes_of types t) same) ∙ r.2 in
    let suits = merged_well types d t nothing m bytes (nothing_typed 100 types t) means in
    subst (λ b. Mean types t b m) its (bytes_mean types t m suits (subst (λ b. length b < 2 ^ 64) (sym its) short))

pub same_meaning : (p : PoolType) → IsSound p → (name bytes out : List ℕ) → AreBytes bytes → Recoded p name bytes out → length out < 2 ^ 64 → (m : Message)
    → Mean (types_of p) (without_dot name) bytes m → Mean (types_of p) (without_dot name) out m
same_meaning p sound name bytes out b h short m means = recoded_means (types_of p) (defaults p sound) (without_dot name) bytes out (recodes p sound name bytes out b h) short m means

pub stays : (p : PoolType) → IsSound p → (name bytes out again : List ℕ) → AreBytes bytes → AreBytes out → Recoded p name bytes out → length out < 2 ^ 64 → Recoded p name out again → again ≡ out
stays p sound name bytes out again b c h short k =
    let types = types_of p in
    let t = without_dot name in
    let its = recodes p sound name bytes out b h in
    let next = recodes p sound name out again c k in
    let same : next.0 ≡ its.0 = one_meaning types t nothing out next.0 its.0 next.1 (recoded_means types (defaults p sound) t bytes out its short its.0 its.1) in
    sym next.2 ∙ ap (bytes_of types t) same ∙ its.2

pub passed : (old new : SchemaType)
    → IsOlder (types_of old.0.pool) (without_dot old.1) (types_of new.0.pool) (without_dot new.1)
    → (bytes out : List ℕ) → AreBytes bytes → Recoded old.0.pool old.1 bytes out
    → length out < 2 ^ 64 → (m : Message) → Mean (types_of new.0.pool) (without_dot new.1) bytes m
    → Mean (types_of new.0.pool) (without_dot new.1) out m
passed old new older bytes out b h short m means =
    passes (types_of old.0.pool) (types_of new.0.pool) (without_dot old.1) (without_dot new.1)
    bytes out m older (defaults new.0.pool new.0.sound) means
    (recodes old.0.pool old.0.sound old.1 bytes out b h) short

-- what schemas recode, one after the other, as their types do
pub through : (ss : List SchemaType) (bytes out : List ℕ) → AreBytes bytes → RecodedThrough ss bytes out
    → IsRecodedThrough (map type_of ss) bytes out × AreBytes out
through [] bytes out b h = (h, subst AreBytes h b)
through (s ∷ ss) bytes out b (next, h, c, short, more) =
    let rest = through ss next out c more in
    ((next, recodes s.0.pool s.0.sound s.1 bytes next b h, short, rest.0), rest.1)

pub one_normal_form : (new : SchemaType) (ss : List SchemaType)
    → AreOlderThan (types_of new.0.pool) (without_dot new.1) (map type_of ss)
    → (bytes out x y : List ℕ) → AreBytes bytes → RecodedThrough ss bytes out
    → Recoded new.0.pool new.1 out x → Recoded new.0.pool new.1 bytes y → x ≡ y
one_normal_form new ss older bytes out x y b h k l =
    let types = types_of new.0.pool in
    let chain = through ss bytes out b h in
    let direct = recodes new.0.pool new.0.sound new.1 bytes y b l in
    same_as_direct types (without_dot new.1) (defaults new.0.pool new.0.sound) (map type_of ss) older
    bytes out x y (direct.1.0, direct.1.1) chain.0
    (recodes new.0.pool new.0.sound new.1 out x chain.1 k) direct

pub equal_forms : (new : SchemaType) (ss ts : List SchemaType)
    → AreOlderThan (types_of new.0.pool) (without_dot new.1) (map type_of ss)
    → AreOlderThan (types_of new.0.pool) (without_dot new.1) (map type_of ts)
    → (a b x y p q : List ℕ) → AreBytes a → AreBytes b → RecodedThrough ss a x → RecodedThrough ts b y
    → Recoded new.0.pool new.1 x p → Recoded new.0.pool new.1 y q
    → length p < 2 ^ 64 → length q < 2 ^ 64 → (m n : Message)
    → Mean (types_of new.0.pool) (without_dot new.1) a m
    → Mean (types_of new.0.pool) (without_dot new.1) b n → (p ≡ q) ↔ (m ≡ n)
equal_forms new ss ts older also a b x y p q small little h k first second short brief m n means other =
    let f = through ss a x small h in
    let g = through ts b y little k in
    equal_where_meant (types_of new.0.pool) (without_dot new.1) (defaults new.0.pool new.0.sound)
    (map type_of ss) (map type_of ts) older also a b x y p q m n means other f.0 g.0
    (recodes new.0.pool new.0.sound new.1 x p f.1 first)
    (recodes new.0.pool new.0.sound new.1 y q g.1 second) short brief

-- schemas with the same types recode alike
pub recoded_alike : (p q : PoolType) → IsSound p → IsSound q → types_of p ≡ types_of q
    → (name bytes a b : List ℕ) → AreBytes bytes → Recoded p name bytes a → Recoded q name bytes b
    → a ≡ b
recoded_alike p q sound also same name bytes a b small first second =
    let types = types_of q in
    let t = without_dot name in
    let x = subst (λ ts. IsRecoded ts t bytes a) same (recodes p sound name bytes a small first) in
    let y = recodes q also name bytes b small second in
    sym x.2 ∙ ap (bytes_of types t) (one_meaning types t nothing bytes x.0 y.0 x.1 y.1) ∙ y.2
