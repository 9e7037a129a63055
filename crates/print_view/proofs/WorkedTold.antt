-- The definitions compute the worked records' texts.
use Rattle.std.proofs.Common.{◌≡◌, inl, inr, ℕ, List, [], ◌∷◌, ◌++◌, refl, ap, arith, get_or}
use Rattle.std.specs.Prelude.{codes}
use Rattle.std.specs.Fmt.{digits, padded_integral, char_count}
use Rattle.std.specs.List.{AllByRecursion}
use Rattle.reflect_wire.specs.Key.{IsKey, key_code}
use Rattle.reflect_wire.specs.Records.{Records, no_records, more_records, varint, key_of, wire_of}
use Rattle.reflect_wire.specs.Varint.{IsVarint, SpellsVarint}
use Rattle.reflect_wire.specs.declared.wire_key.WireKey.{WireKey}
use Rattle.reflect_wire.specs.declared.wire_key.WireType.TheVariants as wires
use Rattle.text_lines.specs.UnknownTexts.{IsPayloadText, IsRecordText, SpellsAny}
use Rattle.print_view.specs.Told.{told}

-- 10 42 spells the number 66 under 2
spells_one : SpellsAny (16 ∷ 66 ∷ []) (more_records 2 (varint 66) no_records)
spells_one = ((λ none. cc none), (16 ∷ [], 66 ∷ [], [], key, number, refl, refl)) where
  key : IsKey (16 ∷ []) (key_of 2 wires.Varint)
  key = record {
    some = omega arith;
    small = omega arith;
    spelled = record { short = omega arith; fits = omega arith; spelled = inl (omega arith, refl, refl) };
  }

  number : IsVarint (66 ∷ []) 66
  number = record { short = omega arith; fits = omega arith; spelled = inl (omega arith, refl, refl) }

-- no key begins with a byte 0
no_key : (key : WireKey) (bytes rest : List ℕ) → IsKey bytes key → 0 ∷ [] ≡ bytes ++ rest → ⊥
no_key key [] rest is e = is.spelled.spelled
no_key key (b ∷ bs) rest is e = by is.spelled.spelled where
  zero_first : 0 ≡ b
  zero_first = ap (λ l. get_or l 0 0) e

  by : SpellsVarint (b ∷ bs) (key_code key) → ⊥
  by (inl h) = omega (arith, h.2, zero_first, is.some)
  by (inr h) = omega (arith, h.0, zero_first)

none_spelled : (rs : Records) → SpellsAny (0 ∷ []) rs → ⊥
none_spelled no_records h = cc h.1
none_spelled (more_records n p rs) h = no_key (key_of n (wire_of p)) h.1.0 (h.1.1 ++ h.1.2) h.1.3 h.1.6

one_record : Records
one_record = more_records 2 (varint 66) no_records

pub worked : AllByRecursion (λ e. IsRecordText e.0 (IsPayloadText 100 e.0) 0 e.1 e.2) told
unfolding digits padded_integral char_count one_record
worked = (
  (codes ":150", refl, refl),
  (
    (codes ": 150", refl, refl),
    (
      (codes ":0x0000002a", refl, refl),
      (
        (codes ":0x000000000000002a", refl, refl),
        (
          (codes "{2:66}", inl (one_record, spells_one, (codes "2:66", (codes ":66", [], refl, refl, refl), refl)), refl),
          (
            (codes " {\n  2: 66\n}", inl (one_record, spells_one, (codes "\n  2: 66", (codes ": 66", [], refl, refl, refl), refl)), refl),
            (
              (codes ":\"\"", inr ((λ rs h. h.0 refl), refl), refl),
              (
                (codes ":\"\\000\"", inr (none_spelled, refl), refl),
                (
                  (codes "{}", ([], refl, refl), refl),
                  (
                    (codes " {\n  7: 1\n  8: 2\n}", (codes "\n  7: 1\n  8: 2", (codes ": 1", codes "\n  8: 2", refl, (codes ": 2", [], refl, refl, refl), refl), refl), refl),
                    (
                      (codes "{7:1,8:2}", (codes "7:1,8:2", (codes ":1", codes ",8:2", refl, (codes ":2", [], refl, refl, refl), refl), refl), refl),
                      tt,
                    ),
                  ),
                ),
              ),
            ),
          ),
        ),
      ),
    ),
  ),
)
