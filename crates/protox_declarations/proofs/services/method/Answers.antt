use Rattle.protox_declarations.proofs.ServiceLaws.{Moves-method}
use Rattle.protox_declarations.specs.ServiceGrammar.{method_type, method_body, a_method}
use Rattle.protox_lex.specs.Token.{ident}
use Rattle.protox_options.proofs.Behind.{Answers, behind, refused, last}
use Rattle.protox_tokens.specs.Parser.{expect, word}
use Rattle.protox_tokens.specs.Reads.{Fails}
use Rattle.protox_tokens.specs.Stream.{stream}
use Rattle.protox_tree.specs.Tree.{Method}
use Rattle.protox_tree.specs.View.{ident_view, method_type_view, method_body_view}
use Rattle.std.proofs.Common.{◌≡◌, refl, Ok}
use Rattle.std.proofs.lemmas.Result.{err_from_is_err_and}
use Rattle.std.specs.Prelude.{codes, option_map}
use Rattle.protox_declarations.proofs.services.method.Goals as goal

pub returns-in_err-first : goal.returns-in_err-first
unfolding a_method
returns-in_err-first c =
    let p = err_from_is_err_and c.from_residual.result c.from_residual.ensures.1 in
    let e = c.in_err-first.field-0.0 in
    let h : Answers (Fails e) a_method (stream c.args.tokens.now) =
    refused (expect (ident (codes "rpc"))) _ e c.in_err-first.ensures.reads in
    rw (p.1, p.2) (record { reads = h.so; moves = tt })

pub returns-in_err-name : goal.returns-in_err-name
unfolding a_method
returns-in_err-name c =
    let r = c.from_residual-in_err-name in
    let p = err_from_is_err_and r.result r.ensures.1 in
    let e = c.in_err-name.field-0.0 in
    let h : Answers (Fails e) a_method (stream c.args.tokens.now) =
    behind (expect (ident (codes "rpc"))) _ c.in_ok-first.ensures.reads
    (refused word _ e c.in_err-name.ensures.reads) in
    rw (p.1, p.2) (record { reads = h.so; moves = tt })

pub returns-in_err-input : goal.returns-in_err-input
unfolding a_method
returns-in_err-input c =
    let r = c.from_residual-in_err-input in
    let p = err_from_is_err_and r.result r.ensures.1 in
    let e = c.in_err-input.field-0.0 in
    let h : Answers (Fails e) a_method (stream c.args.tokens.now) =
    behind (expect (ident (codes "rpc"))) _ c.in_ok-first.ensures.reads
    (behind word _ c.in_ok-name.ensures.reads
    (refused method_type _ e c.in_err-input.ensures.reads)) in
    rw (p.1, p.2) (record { reads = h.so; moves = tt })

pub returns-in_err-expect : goal.returns-in_err-expect
unfolding a_method
returns-in_err-expect c =
    let r = c.from_residual-in_err-expect in
    let p = err_from_is_err_and r.result r.ensures.1 in
    let e = c.in_err-expect.field-0.0 in
    let h : Answers (Fails e) a_method (stream c.args.tokens.now) =
    behind (expect (ident (codes "rpc"))) _ c.in_ok-first.ensures.reads
    (behind word _ c.in_ok-name.ensures.reads (behind method_type _ c.in_ok-input.ensures.reads
    (refused (expect (ident (codes "returns"))) _ e c.in_err-expect.ensures.reads))) in
    rw (p.1, p.2) (record { reads = h.so; moves = tt })

pub returns-in_err-output : goal.returns-in_err-output
unfolding a_method
returns-in_err-output c =
    let r = c.from_residual-in_err-output in
    let p = err_from_is_err_and r.result r.ensures.1 in
    let e = c.in_err-output.field-0.0 in
    let h : Answers (Fails e) a_method (stream c.args.tokens.now) =
    behind (expect (ident (codes "rpc"))) _ c.in_ok-first.ensures.reads
    (behind word _ c.in_ok-name.ensures.reads (behind method_type _ c.in_ok-input.ensures.reads
    (behind (expect (ident (codes "returns"))) _ c.in_ok-expect.ensures.reads
    (refused method_type _ e c.in_err-output.ensures.reads)))) in
    rw (p.1, p.2) (record { reads = h.so; moves = tt })

pub returns-in_err-body : goal.returns-in_err-body
unfolding a_method
returns-in_err-body c =
    let r = c.from_residual-in_err-body in
    let p = err_from_is_err_and r.result r.ensures.1 in
    let e = c.in_err-body.field-0.0 in
    let h : Answers (Fails e) a_method (stream c.args.tokens.now) =
    behind (expect (ident (codes "rpc"))) _ c.in_ok-first.ensures.reads
    (behind word _ c.in_ok-name.ensures.reads (behind method_type _ c.in_ok-input.ensures.reads
    (behind (expect (ident (codes "returns"))) _ c.in_ok-expect.ensures.reads
    (behind method_type _ c.in_ok-output.ensures.reads
    (refused method_body _ e c.in_err-body.ensures.reads))))) in
    rw (p.1, p.2) (record { reads = h.so; moves = tt })

pub returns : goal.returns
unfolding a_method
returns c =
    let x : Method = record {
      name = ident_view c.in_ok-name.name;
      input = method_type_view c.in_ok-input.input;
      output = method_type_view c.in_ok-output.output;
      body = option_map method_body_view c.in_ok-body.body;
      span = record { start = c.in_ok-first.first.start; end = c.in_ok-body.end };
    } in
    let h : Answers (λ o. o ≡ Ok (x, stream c.method_body.new.tokens)) a_method
    (stream c.args.tokens.now) =
    behind (expect (ident (codes "rpc"))) _ c.in_ok-first.ensures.reads
    (behind word _ c.in_ok-name.ensures.reads (behind method_type _ c.in_ok-input.ensures.reads
    (behind (expect (ident (codes "returns"))) _ c.in_ok-expect.ensures.reads
    (behind method_type _ c.in_ok-output.ensures.reads
    (behind method_body _ c.in_ok-body.ensures.reads (last _ refl)))))) in
    record { reads = h.so; moves = Moves-method.at _ _ _ h.so }
