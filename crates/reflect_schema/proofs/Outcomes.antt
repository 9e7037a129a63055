-- What holds of an outcome holds of it in other words.
use Rattle.std.proofs.Common.{◌⊎◌, List, [], ℕ, Result, Ok, Err, IfErr, OnErr, OnOk, append-nil, inl, inr, sym}
use Rattle.run_parts.specs.Streams.{Gets, GetsFront, GetsPart, Stream}

pub on_ok : {X E A B : Type 0} (r : Result X E) → (A → B) → OnOk r A → OnOk r B
on_ok (Ok x) f h = f h
on_ok (Err e) f h = h

pub if_err : {X E : Type 0} (r : Result X E) (P Q : E → Type 0) → ((e : E) → P e → Q e) → IfErr r P → IfErr r Q
if_err (Ok x) P Q f h = h
if_err (Err e) P Q f h = f e h

pub map_left : {A B C : Type 0} → (A → C) → A ⊎ B → C ⊎ B
map_left f (inl a) = inl (f a)
map_left f (inr b) = inr b

-- what is written whole or in part has its beginning written
pub front_of : {X E S : Type 0} (r : Result X E) (s : Stream S) (bytes : List ℕ) → OnOk r (Gets s bytes) → OnErr r (GetsPart s bytes) → GetsFront s bytes
front_of (Ok x) s bytes whole part = (bytes, [], sym (append-nil bytes), whole)
front_of (Err e) s bytes whole part = (part.0, part.1, part.2, part.4)
