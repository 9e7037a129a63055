-- What texts of a type are read by, by its name and by its place.
use Rattle.std.proofs.Common.{◌≡◌, ◌<◌, ℕ, length, Option, ap}
use Rattle.protox_lex.specs.Class.{Text}
use Rattle.protobuf_model.specs.Types.{Name}
use Rattle.protobuf_model.specs.Values.{Message}
use Rattle.reflect_tables.specs.Types.{PoolType}
use Rattle.message_view.specs.Sound.{HaveNames}
use Rattle.message_view.specs.Types.{name_at}
use Rattle.message_view.proofs.Sound.{found_at}
use Rattle.text_model.specs.Schemas.{shape_of}
use Rattle.text_view.specs.Schemas.{schema_of, shape_at}

pub shape_is : (pool : PoolType) → HaveNames pool → (decoded : Name → Text → Option Message) → (i : ℕ) → i < length pool.messages
    → shape_of (schema_of pool decoded) (name_at pool i) ≡ shape_at pool i
shape_is pool names decoded i lt = ap (shape_at pool) (found_at pool.messages i lt (λ k less e. names i k lt less e))
