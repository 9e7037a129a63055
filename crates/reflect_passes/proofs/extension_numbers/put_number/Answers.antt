use Rattle.std.proofs.Common.{◌≡◌, ◌∙◌, Some, false, is_some, cond, ap, sym, rules}
use Rattle.std.proofs.Math.Path.{fun_ext}
use Rattle.reflect_passes.specs.Extensions.{with_number}
use Rattle.reflect_tables.specs.ExtensionNumbers.{numbers_of}
use Rattle.reflect_passes.proofs.Numbered.{at_key, keeps_new, with_new}
use Rattle.reflect_passes.proofs.extension_numbers.put_number.Goals.{In_ok-insert}
use Rattle.reflect_passes.proofs.extension_numbers.put_number.Goals as goal

is_new : (c : In_ok-insert) → is_some (numbers_of c.args.numbers.now (c.args.extension.now.extendee, c.args.extension.now.field.number)) ≡ false
is_new c = search rules

puts : (c : In_ok-insert) → numbers_of c.insert.new.self ≡ with_number (numbers_of c.args.numbers.now) c.args.place c.args.extension.now
puts c =
    let x = c.args.extension.now in
    let known = numbers_of c.args.numbers.now in
    fun_ext (λ k. c.in_ok-insert.ensures.updates.0 k ∙ ap (λ b. cond b (Some c.args.place) (known k)) (at_key k x)) ∙ sym (with_new known c.args.place x (is_new c))

pub returns-in_ok-insert-clause-keeps : goal.returns-in_ok-insert-clause-keeps
returns-in_ok-insert-clause-keeps c = keeps_new (numbers_of c.args.numbers.now) (numbers_of c.insert.new.self) c.args.place c.args.extension.now (is_new c) (puts c)
