use Rattle.std.proofs.Common.{◌≡◌, ◌++◌, option_map, sym, ap, ◌∙◌}
use Rattle.reflect_codec.specs.Held.{held}
use Rattle.reflect_wire.specs.Encoding.{key_bytes}
use Rattle.reflect_wire.specs.Records.{key_of}
use Rattle.reflect_scalar.specs.Kinds.{wire_type}
use Rattle.reflect_scalar.specs.Singles.{scalar_view}
use Rattle.reflect_encode.proofs.Forms.{keyed, record_same}
use Rattle.reflect_encode.proofs.encode.put_single.Goals as goal

pub returns-in_ok-put_key-clause-written : goal.returns-in_ok-put_key-clause-written
returns-in_ok-put_key-clause-written c = λ pool k is.
    let v = option_map scalar_view c.args.value in
    let old = held c.args.out.now in
    let bare = c.in_ok-put_bare.ensures in
    let put : held c.put_key.new.self ≡ key_bytes (key_of c.args.number (wire_type c.args.kind.now)) ++ held c.put_bare.new.out = c.in_ok-put_key.ensures ∙ ap (λ w. key_bytes (key_of c.args.number w) ++ held c.put_bare.new.out) c.wire_type.ensures in
    let key = keyed c.args.kind.now c.args.number v old (held c.put_bare.new.out) (held c.put_key.new.self) (sym bare.suits ∙ c.if-branch.true) bare.put put in
    key ∙ ap (λ l. l ++ old) (record_same pool c.args.kind.now k c.args.number v is)
