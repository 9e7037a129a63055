-- Bytes that pass through older types.
use Rattle.std.proofs.Common.{◌≡◌, ◌↔◌, ℕ, ◌<◌, ◌^◌, List, [], ◌∷◌, length, refl, sym, ap, ◌∙◌, subst}
use Rattle.std.specs.Prelude.{Contains}
use Rattle.reflect_wire.specs.Views.{records_of}
use Rattle.reflect_wire.proofs.Spelling.{records_spelled}
use Rattle.protobuf_model.specs.Values.{Message, nothing}
use Rattle.protobuf_model.specs.Types.{Name, Types}
use Rattle.protobuf_model.specs.Meaning.{meaning}
use Rattle.protobuf_model.specs.Typed.{HaveDefaults}
use Rattle.protobuf_model.specs.Bytes.{written, bytes_of}
use Rattle.protobuf_model.specs.Older.{IsOlder}
use Rattle.protobuf_model.specs.Coded.{IsAccepted, Mean, IsRecoded, IsRecodedThrough, AreOlderThan}
use Rattle.protobuf_model.proofs.RoundTrip.{accepted_fits}
use Rattle.protobuf_model.proofs.Merging.{nothing_typed}
use Rattle.protobuf_model.proofs.Bytewise.{one_meaning, one_form, merged_well}
use Rattle.protobuf_model.proofs.Older.{older_accepts, passage}

pub accepted_by_older : (old new : Types) (i j : Name) (bytes : List ℕ) → IsOlder old i new j → IsAccepted new j bytes → IsAccepted old i bytes
accepted_by_older old new i j bytes older h = (h.0, record { spelled = h.1.spelled; accepted = older_accepts 100 old new (λ i j. Contains older.0 (i, j)) older.1 i j older.2 h.0 h.1.accepted })

-- what the older writes again means the same to the newer
pub passes : (old new : Types) (i j : Name) (bytes out : List ℕ) (m : Message) → IsOlder old i new j → HaveDefaults new → Mean new j bytes m → IsRecoded old i bytes out → length out < 2 ^ 64 → Mean new j out m
passes old new i j bytes out m older defaults h k z =
    let Pair = λ (i j : Name). Contains older.0 (i, j) in
    let d = meaning 100 old i nothing h.0 in
    let same : d ≡ k.0 = one_meaning old i nothing bytes d k.0 (h.0, record { spelled = h.1.spelled; accepted = older_accepts 100 old new Pair older.1 i j older.2 h.0 h.1.accepted }, refl) k.1 in
    let there : bytes_of old i d ≡ out = ap (bytes_of old i) same ∙ k.2 in
    let p = passage 100 old new Pair older.1 defaults i j older.2 h.0 h.1.accepted (subst (λ b. length b < 2 ^ 64) (sym there) z) in
    subst (λ b. Mean new j b m) there (
      written old i d,
      record { spelled = records_spelled 100 (records_of (written old i d)) (accepted_fits 100 new j (written old i d) p.accepted); accepted = p.accepted },
      p.means ∙ h.2,
    )

-- and so through any chain
pub passes_through : (new : Types) (j : Name) (ts : List (Types × Name)) (bytes out : List ℕ) (m : Message) → HaveDefaults new → AreOlderThan new j ts → Mean new j bytes m → IsRecodedThrough ts bytes out → Mean new j out m
passes_through new j [] bytes out m defaults older h k = subst (λ b. Mean new j b m) k h
passes_through new j (t ∷ ts) bytes out m defaults older h k =
    passes_through new j ts k.0 out m defaults older.1 (passes t.0 new t.1 j bytes k.0 m older.0 defaults h k.1 k.2) k.3

pub one_normal_form : (new : Types) (j : Name) → HaveDefaults new → (ts us : List (Types × Name)) → AreOlderThan new j ts → AreOlderThan new j us
    → (a b x y p q : List ℕ) (m n : Message) → Mean new j a m → Mean new j b n → IsRecodedThrough ts a x → IsRecodedThrough us b y → IsRecoded new j x p → IsRecoded new j y q → length p < 2 ^ 64 → length q < 2 ^ 64 → (p ≡ q) ↔ (m ≡ n)
one_normal_form new j defaults ts us older others a b x y p q m n h k r s u v y' z' =
    let first : m ≡ u.0 = one_meaning new j nothing x m u.0 (passes_through new j ts a x m defaults older h r) u.1 in
    let second : n ≡ v.0 = one_meaning new j nothing y n v.0 (passes_through new j us b y n defaults others k s) v.1 in
    let left : bytes_of new j m ≡ p = ap (bytes_of new j) first ∙ u.2 in
    let right : bytes_of new j n ≡ q = ap (bytes_of new j) second ∙ v.2 in
    let one = one_form new j m n (merged_well new defaults j nothing m a (nothing_typed 100 new j) h) (merged_well new defaults j nothing n b (nothing_typed 100 new j) k) (subst (λ b. length b < 2 ^ 64) (sym left) y') (subst (λ b. length b < 2 ^ 64) (sym right) z') in
    ((λ e. one.0 (left ∙ e ∙ sym right)), (λ e. sym left ∙ one.1 e ∙ right))

pub same_as_direct : (new : Types) (j : Name) → HaveDefaults new → (ts : List (Types × Name)) → AreOlderThan new j ts
    → (bytes through x y : List ℕ) → IsAccepted new j bytes → IsRecodedThrough ts bytes through → IsRecoded new j through x → IsRecoded new j bytes y → x ≡ y
same_as_direct new j defaults ts older bytes through x y h r u v =
    let m = meaning 100 new j nothing h.0 in
    let first : m ≡ u.0 = one_meaning new j nothing through m u.0 (passes_through new j ts bytes through m defaults older (h.0, h.1, refl) r) u.1 in
    let second : m ≡ v.0 = one_meaning new j nothing bytes m v.0 (h.0, h.1, refl) v.1 in
    sym u.2 ∙ ap (bytes_of new j) (sym first ∙ second) ∙ v.2
