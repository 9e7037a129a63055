-- The hash of a name, as a function of its bytes.
use Rattle.std.specs.Prelude.{ℕ, ◌*◌, ◌-◌, ◌/◌, ◌%◌, ◌^◌, List, length, drop, cond, nat_lt, bit_or, bit_xor}
use Rattle.std.specs.List.{fold}
use Rattle.std.specs.Int.{w64, from_le_bytes}
use Rattle.std.specs.Simd.{first_chunks}

-- what a word makes of a state
unfoldable pub stir : ℕ → ℕ → ℕ
stir state word =
    let product = (bit_xor state word * 0x9E37_79B9_7F4A_7C15) % 2 ^ 64 in
    bit_xor product (product / 2 ^ 32)

-- bytes as one word, the last one lowest
abbrev pub short_word : List ℕ → ℕ
short_word bytes = fold (λ word byte. bit_or ((word * 2 ^ 8) % 2 ^ 64) byte) 0 bytes

-- the last eight bytes as a word, or all where there are fewer
abbrev pub last_word : List ℕ → ℕ
last_word bytes = cond (nat_lt (length bytes) 8) (short_word bytes)
    (from_le_bytes w64 (drop (length bytes - 8) bytes))

-- the hash of a name: its length, stirred with each eight bytes, and at last with its last word
unfoldable pub hash_of : List ℕ → ℕ
hash_of bytes =
    let words = first_chunks 8 (length bytes / 8) bytes in
    let state = fold (λ state word. stir state (from_le_bytes w64 word)) (length bytes) words in
    stir state (last_word bytes)
