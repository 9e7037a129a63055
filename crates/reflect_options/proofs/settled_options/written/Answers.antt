use Rattle.std.proofs.Common.{◌∙◌, subst, sym}
use Rattle.option_setter.specs.OptionNames.{UnlessMemory}
use Rattle.reflect_decode.specs.Spelled.{IsSpelled, TellsWhy}
use Rattle.reflect_message.specs.Bytes.{message_bytes}
use Rattle.reflect_options.specs.Settled.{RefusesWritten}
use Rattle.reflect_options.proofs.Unread.{written_told}
use Rattle.reflect_options.proofs.settled_options.written.Goals as goal

pub returns-in-Ok-decode-clause-read : goal.returns-in-Ok-decode-clause-read
returns-in-Ok-decode-clause-read c =
    let back = c.in-Ok-decode.field-0 in
    (back, subst (λ d. IsSpelled d (message_bytes c.args.message.now) back) c.descriptor.ensures (subst (λ b. IsSpelled c.descriptor.result b back) (c.as_slice.ensures.value ∙ c.in-Ok.ensures.ok) c.in-Ok-decode.ensures.read))

pub returns-in-Err-decode-clause-refused : goal.returns-in-Err-decode-clause-refused
returns-in-Err-decode-clause-refused c =
    let m = c.args.message.now in
    let e = c.in-Err-decode.error in
    let told = subst (λ d. TellsWhy d (message_bytes m) e) c.descriptor.ensures (subst (λ b. TellsWhy c.descriptor.result b e) (c.as_slice.ensures.value ∙ c.in-Ok.ensures.ok) c.in-Err-decode.ensures.fault) in
    subst (UnlessMemory (RefusesWritten m)) (sym c.unread.ensures.kind) (written_told m e told)
