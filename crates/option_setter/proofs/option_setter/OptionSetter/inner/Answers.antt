use Rattle.std.proofs.Common.{Some, inl, inr, sym, ap, ◌∙◌}
use Rattle.reflect_format.specs.Steps.{held_by}
use Rattle.reflect_format.specs.Takes.{target_pool, target_type}
use Rattle.option_setter.proofs.Held.{held_gone, held_there, ok_then}
use Rattle.option_setter.proofs.option_setter.OptionSetter.inner.Goals as goal

-- src/option_setter.rt:187:5
pub returns-in-Some-clause-led : goal.returns-in-Some-clause-led
returns-in-Some-clause-led c =
    let t = c.args.target in
    let there = held_there (target_pool t) (target_type t) (held_by c.args.message.now t) c.in-Some.held (sym c.in-Some.ensures.taken) in
    ok_then c.held_message.result (λ m same. record {
      one = sym c.if-not-holds_many.ensures;
      kind = (c.in-Message.kind, c.in-Message.ensures, inl (there ∙ ap Some same));
      taken = c.in-Some.ensures.unset;
    }) c.held_message.ensures.message

-- src/option_setter.rt:187:5
pub returns-in-None-clause-led : goal.returns-in-None-clause-led
returns-in-None-clause-led c =
    let t = c.args.target in
    record {
      one = sym c.if-not-holds_many.ensures;
      kind = (
        c.in-Message.kind,
        c.in-Message.ensures,
        inr (
          held_gone (target_pool t) (target_type t) (held_by c.args.message.now t) (sym c.in-None.ensures.taken),
          c.new.ensures.same_type,
          c.new.ensures.empty,
        ),
      );
      taken = c.in-None.ensures.unset;
    }
