-- A record that no type declares is told in one text.
use Rattle.std.proofs.Common.{◌≡◌, inl, inr, ℕ, zero, suc, ◌+◌, Bool, true, false, List, ◌++◌, sym, ap, ◌∙◌, subst}
use Rattle.std.specs.Fmt.{decimal}
use Rattle.reflect_wire.specs.Records.{Payload, varint, fixed64, delimited, group, fixed32, Records, no_records, more_records}
use Rattle.reflect_wire.proofs.Spelling.{one_list}
use Rattle.text_lines.specs.Pieces.{padding, before_item, in_braces}
use Rattle.text_lines.specs.UnknownTexts.{Shows, are_any, IsValueText, IsRowText, IsRecordText, IsPayloadText}

-- bytes are shown in one text
abbrev ShowsOnce : Shows → Type 0
ShowsOnce shows = (indent : ℕ) (bytes a b : List ℕ) → shows indent bytes a → shows indent bytes b → a ≡ b

module _ (pretty : Bool) (shows : Shows) (once : ShowsOnce shows) where
  mutual
    value_once : (indent : ℕ) (p : Payload) (a b : List ℕ) → IsValueText pretty shows indent p a → IsValueText pretty shows indent p b → a ≡ b
    value_once indent (varint n) a b g h = g ∙ sym h
    value_once indent (fixed64 n) a b g h = g ∙ sym h
    value_once indent (delimited bytes) a b g h = once indent bytes a b g h
    value_once indent (group rs) a b g h =
        g.2 ∙ ap (λ items. padding pretty ++ in_braces pretty indent (are_any rs) items) (row_once (indent + 2) false rs g.0 h.0 g.1 h.1) ∙ sym h.2
    value_once indent (fixed32 n) a b g h = g ∙ sym h

    row_once : (indent : ℕ) (any : Bool) (rs : Records) (a b : List ℕ) → IsRowText pretty shows indent any rs a → IsRowText pretty shows indent any rs b → a ≡ b
    row_once indent any no_records a b g h = g ∙ sym h
    row_once indent any (more_records n p rs) a b g h =
        g.4 ∙ ap (λ value. before_item pretty true any indent ++ ((decimal n ++ value) ++ g.1)) (value_once indent p g.0 h.0 g.2 h.2)
        ∙ ap (λ rest. before_item pretty true any indent ++ ((decimal n ++ h.0) ++ rest)) (row_once indent true rs g.1 h.1 g.3 h.3) ∙ sym h.4

payload_once : (payloads : ℕ) (pretty : Bool) → ShowsOnce (IsPayloadText payloads pretty)
payload_once zero pretty indent bytes a b g h = g ∙ sym h
payload_once (suc k) pretty indent bytes a b (inl g) (inl h) =
    let same : g.0 ≡ h.0 = one_list 100 bytes g.0 h.0 g.1.1 h.1.1 in
    value_once pretty (IsPayloadText k pretty) (payload_once k pretty) indent (group h.0) a b
    (subst (λ rs. IsValueText pretty (IsPayloadText k pretty) indent (group rs) a) same g.2) h.2
payload_once (suc k) pretty indent bytes a b (inl g) (inr h) = absurd (h.0 g.0 g.1)
payload_once (suc k) pretty indent bytes a b (inr g) (inl h) = absurd (g.0 h.0 h.1)
payload_once (suc k) pretty indent bytes a b (inr g) (inr h) = g.1 ∙ sym h.1

pub record_once : (pretty : Bool) (payloads indent : ℕ) (r : ℕ × Payload) (a b : List ℕ)
    → IsRecordText pretty (IsPayloadText payloads pretty) indent r a → IsRecordText pretty (IsPayloadText payloads pretty) indent r b → a ≡ b
record_once pretty payloads indent r a b g h =
    g.2 ∙ ap (λ value. decimal r.0 ++ value) (value_once pretty (IsPayloadText payloads pretty) (payload_once payloads pretty) indent r.1 g.0 h.0 g.1 h.1) ∙ sym h.2
