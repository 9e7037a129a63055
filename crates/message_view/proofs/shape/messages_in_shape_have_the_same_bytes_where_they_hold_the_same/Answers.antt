use Rattle.std.proofs.Common.{◌^◌, ◌<◌, ◌≡◌, ◌∙◌, List, ℕ, length, subst, sym}
use Rattle.protobuf_model.proofs.Bytewise.{one_form}
use Rattle.protobuf_model.specs.Bytes.{bytes_of}
use Rattle.reflect_message.specs.Bytes.{message_bytes}
use Rattle.message_view.specs.Types.{name_at, types_of}
use Rattle.message_view.specs.Views.{view}
use Rattle.message_view.proofs.Encoded.{shape_written}
use Rattle.message_view.proofs.shape.messages_in_shape_have_the_same_bytes_where_they_hold_the_same.Goals as goal

pub returns : goal.returns
returns c = λ d sound m n is its levels depth shaped shape suits fits short brief.
    let types = types_of d.pool.now in
    let t = name_at d.pool.now d.index in
    let first : message_bytes m ≡ bytes_of types t (view m) = shape_written d sound m is levels shaped in
    let second : message_bytes n ≡ bytes_of types t (view n) = shape_written d sound n its depth shape in
    let one = one_form types t (view m) (view n) suits fits
    (subst (λ (bs : List ℕ). length bs < 2 ^ 64) first short) (subst (λ (bs : List ℕ). length bs < 2 ^ 64) second brief) in
    ((λ e. one.0 (sym first ∙ e ∙ second)), (λ e. first ∙ one.1 e ∙ sym second))
