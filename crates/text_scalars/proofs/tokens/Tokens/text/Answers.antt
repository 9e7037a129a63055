use Rattle.std.proofs.Common.{rules, ◌≡◌, ◌∙◌, ap, sym, string_bytes}
use Rattle.std.proofs.lemmas.Str.{IsUtf8-string_bytes}
use Rattle.text_scalars.specs.Remaining.{remaining}
use Rattle.text_scalars.specs.Scalars.{scalar_at}
use Rattle.text_scalars.proofs.Strings.{as_text, is_text, no_text, text_if}
use Rattle.text_scalars.proofs.tokens.Tokens.text.Goals as goal

pub returns-in-Ok-clause-read : goal.returns-in-Ok-clause-read
returns-in-Ok-clause-read c =
    let e = as_text (scalar_at (remaining c.args.self.now)) c.in_ok-bytes.bytes.items c.in_ok-bytes.span (remaining c.bytes.new.self) c.in_ok-bytes.ensures.read in
    let same : string_bytes c.in-Ok.text ≡ c.in_ok-bytes.bytes.items = search rules in
    let utf8 = IsUtf8-string_bytes c.in-Ok.text in
    e ∙ ap (λ b. text_if b c.in_ok-bytes.span (remaining c.bytes.new.self)) (sym same)
    ∙ is_text (string_bytes c.in-Ok.text) c.in_ok-bytes.span (remaining c.bytes.new.self) utf8

pub returns-clause-read : goal.returns-clause-read
returns-clause-read c =
    let e = as_text (scalar_at (remaining c.args.self.now)) c.in_ok-bytes.bytes.items c.in_ok-bytes.span (remaining c.bytes.new.self) c.in_ok-bytes.ensures.read in
    e ∙ no_text c.in_ok-bytes.bytes.items c.in_ok-bytes.span (remaining c.bytes.new.self) (λ u. absurd (cc (c.in-Err.ensures.succeeds u)))
