-- The shortest spelling of a number, byte by byte, and what stays in front of what is written.
use Rattle.std.proofs.Common.{◌≡◌, ℕ, zero, suc, ◌<◌, ◌≤◌, ◌+◌, ◌/◌, ◌%◌, List, [], ◌∷◌, ◌++◌, length, take, refl, sym, ap, ◌∙◌, arith, nat_lt, if◌then◌else◌, append_assoc}
use Rattle.std.proofs.lemmas.Grind.{common_steps}
use Rattle.std.proofs.lemmas.List.{length-take, take-take}
use Rattle.reflect_wire.specs.Encoding.{varint_within, varint_bytes, KeepsFront}

-- enough is enough
varint_within-enough : (j k n : ℕ) → n ≤ j → n ≤ k → varint_within j n ≡ varint_within k n
varint_within-enough zero zero n h i = refl
varint_within-enough zero (suc k) n h i = let small : n < 128 = omega arith in grind (arith, common_steps)
varint_within-enough (suc j) zero n h i = let small : n < 128 = omega arith in grind (arith, common_steps)
varint_within-enough (suc j) (suc k) n h i =
    ap (λ bs. if nat_lt n 128 then n ∷ [] else (n % 128 + 128) ∷ bs) (varint_within-enough j k (n / 128) (omega arith) (omega arith))

pub varint_bytes-last : (n : ℕ) → n < 128 → varint_bytes n ≡ n ∷ []
unfolding varint_bytes
varint_bytes-last zero h = refl
varint_bytes-last (suc n) h = grind (arith, common_steps)

pub varint_bytes-more : (n : ℕ) → 128 ≤ n → varint_bytes n ≡ (n % 128 + 128) ∷ varint_bytes (n / 128)
unfolding varint_bytes
varint_bytes-more zero h = absurd (omega arith)
varint_bytes-more (suc n) h =
    let same : varint_within n (suc n / 128) ≡ varint_within (suc n / 128) (suc n / 128) = varint_within-enough n (suc n / 128) (suc n / 128) (omega arith) (omega arith) in
    grind (arith, common_steps, same)

pub keeps_more : (a b : List ℕ) → KeepsFront a (a ++ b)
keeps_more a b = grind (arith, common_steps)

pub keeps_through : (a b c : List ℕ) → KeepsFront a b → KeepsFront b c → KeepsFront a c
keeps_through a b c h i =
    let within : length a ≤ length b = omega (arith, ap length h, length-take (length a) b) in
    let front : take (length a) (take (length b) c) ≡ take (length a) c = take-take (length a) (length b) c within in
    sym front ∙ ap (take (length a)) i ∙ h

-- what is written behind the rest leaves the front
pub keeps_pushed : (a b c more : List ℕ) → KeepsFront a b → c ≡ b ++ more → KeepsFront a c
keeps_pushed a b c more h e = keeps_through a b c h (ap (take (length b)) e ∙ keeps_more b more)

-- one byte of a number that has more
pub written_more : (old new : List ℕ) (n : ℕ) (whole : List ℕ) → new ≡ old ++ (n % 128 + 128) ∷ [] → 128 ≤ n → old ++ varint_bytes n ≡ whole → new ++ varint_bytes (n / 128) ≡ whole
written_more old new n whole e h w =
    ap (λ bs. bs ++ varint_bytes (n / 128)) e ∙ append_assoc old ((n % 128 + 128) ∷ []) (varint_bytes (n / 128)) ∙ ap (λ bs. old ++ bs) (sym (varint_bytes-more n h)) ∙ w

-- what is written after more was written
pub keeps_behind : (a b c more : List ℕ) → b ≡ a ++ more → KeepsFront b c → KeepsFront a c
keeps_behind a b c more e h = keeps_through a b c (ap (take (length a)) e ∙ keeps_more a more) h
