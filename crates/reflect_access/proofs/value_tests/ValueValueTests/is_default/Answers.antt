use Rattle.std.proofs.Common.{rules, ◌≡◌, Some, true, subst, sym}
use Rattle.reflect_contents.specs.Walked.{HoldsNothing}
use Rattle.reflect_message.specs.Messages.{message_in}
use Rattle.reflect_message.specs.Names.{DynamicMessage}
use Rattle.reflect_message.specs.declared.value.ValueOf.{the_lemmas}
use Rattle.reflect_pool.specs.Same.{same_message}
use Rattle.reflect_access.specs.Unset.{IsKindDefault}
use Rattle.reflect_access.proofs.value_tests.ValueValueTests.is_default.Goals as goal

pub returns-in-Message-Message : goal.returns-in-Message-Message
returns-in-Message-Message c =
    let v = c.args.self.now in
    let m = c.in-Message-Message.message in
    let d = c.in-Message-Message.wanted in
    let there : message_in v ≡ Some m = search (rules, the_lemmas) in
    let kind = c.in-Message-Message.is-1 in (
      λ yes.
          let it = c.is_empty_of.ensures.0 yes in
          subst (λ k. IsKindDefault k v) (sym kind) (m, there, it.0, it.1),
      λ h.
          let held = subst (λ k. IsKindDefault k v) kind h in
          let same : held.0 ≡ m = cc (held.1, there) in
          c.is_empty_of.ensures.1 (subst (λ (m : DynamicMessage). (same_message m.descriptor d ≡ true) × HoldsNothing m) same (held.2, held.3)),
    )
