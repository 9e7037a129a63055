use Rattle.std.proofs.Common.{◌≡◌, None, Some, lit<, sym, subst, rules}
use Rattle.std.proofs.lemmas.Str.Pattern.{strip_prefix_char, strip_suffix_char}
use Rattle.reflect_pool.specs.Finds.{FindsAny}
use Rattle.reflect_pool.proofs.Bracketed.{Bracketed, inside, no_end, no_front}
use Rattle.reflect_pool.proofs.message.MessageDescriptor.get_extension_by_json_name.Goals as goal

pub returns-in_err-strip_prefix-clause-finds : goal.returns-in_err-strip_prefix-clause-finds
returns-in_err-strip_prefix-clause-finds c =
    let p = c.args.self.now.pool.now in
    let m = c.args.self.now.index in
    let name = c.args.name.now in
    let none : c.from_residual.result ≡ None = search rules in
    subst (FindsAny (Bracketed p m name) p) (sym none) (no_front p m name (strip_prefix_char 91 name None c.in_err-strip_prefix.ensures.cases (lit< tt)))

pub returns-in_err-name-clause-finds : goal.returns-in_err-name-clause-finds
returns-in_err-name-clause-finds c =
    let p = c.args.self.now.pool.now in
    let m = c.args.self.now.index in
    let name = c.args.name.now in
    let rest = c.in_ok-strip_prefix.field-0 in
    let none : c.from_residual-in_err-name.result ≡ None = search rules in
    subst (FindsAny (Bracketed p m name) p) (sym none)
    (no_end p m name rest.now (strip_prefix_char 91 name (Some rest) c.in_ok-strip_prefix.ensures.cases (lit< tt)) (strip_suffix_char 93 rest.now None c.in_err-name.ensures.cases (lit< tt)))

pub returns-clause-finds : goal.returns-clause-finds
returns-clause-finds c =
    let name = c.args.name.now in
    let rest = c.in_ok-strip_prefix.field-0 in
    let body = c.in_ok-name.name in
    inside c.args.self.now.pool.now c.args.self.now.index name rest.now body.now c.get_extension_by_full_name.result (strip_prefix_char 91 name (Some rest) c.in_ok-strip_prefix.ensures.cases (lit< tt))
    (strip_suffix_char 93 rest.now (Some body) c.in_ok-name.ensures.cases (lit< tt)) c.get_extension_by_full_name.ensures.finds
