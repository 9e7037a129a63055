use Rattle.std.proofs.Common.{◌≡◌, Some, None, lit<, sym, ◌∙◌, take, arith}
use Rattle.std.proofs.lemmas.Str.Pattern.{rfind_char}
use Rattle.reflect_scope.proofs.Scopes.{outer_at, outer_none}
use Rattle.reflect_scope.proofs.resolve.outer_of.Goals as goal

pub returns-in-Some : goal.returns-in-Some
returns-in-Some c =
    let p = rfind_char 46 c.args.scope.now (Some c.in-Some.at) c.in-Some.ensures.cases (lit< tt) in
    let front : c.range.result.now ≡ take c.in-Some.at c.args.scope.now = grind (arith, c.range.ensures.value) in
    front ∙ outer_at c.args.scope.now c.in-Some.at p.0 p.1 p.2

pub returns-in-None : goal.returns-in-None
returns-in-None c = sym (outer_none c.args.scope.now (rfind_char 46 c.args.scope.now None c.in-None.ensures.cases (lit< tt)))
