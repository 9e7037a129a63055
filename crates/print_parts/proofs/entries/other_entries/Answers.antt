use Rattle.std.proofs.Common.{rules, ◌≡◌, ◌++◌, List, map, cond, ap, ◌∙◌, sym, subst}
use Rattle.std.proofs.lemmas.List.Sorted.{answers_always}
use Rattle.reflect_message.specs.Held.{unknown_of}
use Rattle.print_parts.specs.Entries.{Entry, IsByNumber, extension_entries, number_of, undeclared}
use Rattle.print_parts.specs.Parts.{other_entry}
use Rattle.print_parts.specs.declared.entries.Other.{Other}
use Rattle.print_parts.proofs.Choosing.{by_number}
use Rattle.print_parts.proofs.entries.other_entries.Goals as goal

pub returns : goal.returns
returns c =
    let m = c.args.message.now in
    let found = c.push_unknown.new.others.items in
    let sorted = c.sort_by_key.new.self.items in
    let key = λ (o : Other). number_of (other_entry o) in
    let a = c.in_ok-sort_by_key.ensures.sorted key (answers_always _ (λ a r. r ≡ key a.0.now) _ (λ f a r g called. search rules)) in
    let s = c.in_ok-sort_by_key.ensures.stable key (answers_always _ (λ a r. r ≡ key a.0.now) _ (λ f a r g called. search rules)) in
    let first : map other_entry c.push_extensions.new.others.items ≡ extension_entries m = search rules in
    let all : map other_entry found ≡ extension_entries m ++ map undeclared (unknown_of m) =
    c.in_ok-push_unknown.ensures ∙ ap (λ (es : List Entry). es ++ map undeclared (unknown_of m)) first in
    subst (λ b. cond b (map other_entry sorted ≡ extension_entries m) (IsByNumber (extension_entries m ++ map undeclared (unknown_of m)) (map other_entry sorted))) (sym c.if-options.false)
    (subst (λ f. IsByNumber f (map other_entry sorted)) all (by_number other_entry found sorted a s))
