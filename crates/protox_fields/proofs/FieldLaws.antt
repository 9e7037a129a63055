-- The rules of fields look one token ahead, and those of which there are many take one.
use Rattle.descriptor_records.specs.declared.field.FieldType.{FieldType}
use Rattle.protox_fields.specs.FieldGrammar.{ty_of, ty_after, ty, map_type, map_by, map_or_name, field_type, extensions, Labelled, repeated_if, required_if, optional_if, label, numbered_name, plain_field}
use Rattle.protox_lex.specs.declared.span.Span.{Span}
use Rattle.protox_options.proofs.NameLaws.{Local-parts, Local-int}
use Rattle.protox_options.proofs.OptionLaws.{Local-options}
use Rattle.protox_options.proofs.RangeLaws.{Local-ranges}
use Rattle.protox_tokens.proofs.Local.{Local, SameHead, same_start, Local-bind, Local-pure, Local-choose, Local-expect, Local-word, Local-eat, of_head-sees, Keeps-local, Moves, Moves-first, Moves-later, Moves-expect, Moves-word, Moves-choose, Moves-map}
use Rattle.protox_tokens.specs.Parser.{here}
use Rattle.protox_tokens.specs.Stream.{Stream, source, peek, span_of}
use Rattle.protox_tree.specs.Scalar.{scalar_of}
use Rattle.protox_tree.specs.Tree.{Word}
use Rattle.std.proofs.Common.{◌≡◌, [], Option, Some, None, Ok, refl, ap, sym}

same_place : (r s : Stream) → SameHead r s → span_of (peek source r) ≡ span_of (peek source s)
same_place r s h = same_start (λ ts. span_of (peek source ts)) r s (λ x t u. refl) h

pub Local-here : Local here
Local-here = record {
  at = λ ts. record {
    front = [];
    whole = refl;
    stable = λ s h. ap (λ p. Ok (p, s)) (sym (same_place ts s h));
  };
}

Local-ty_of : (w : Word) (o : Option FieldType) → Local (ty_of w o)
Local-ty_of w (Some t) = Local-pure _
Local-ty_of w None = Local-bind (Local-parts w) (λ ps. Local-pure _)

Local-ty_after : (o : Option Span) (w : Word) → Local (ty_after o w)
Local-ty_after None w = Local-ty_of w (scalar_of w.text)
Local-ty_after (Some p) w = Local-bind (Local-parts w) (λ ps. Local-pure _)

Local-ty : Local ty
unfolding ty
Local-ty = Local-bind (Local-eat _) (λ o. Local-bind Local-word (Local-ty_after o))

pub Moves-ty : Moves ty
unfolding ty
Moves-ty = Moves-later (Keeps-local (Local-eat _)) (λ o. Moves-first Moves-word (λ w. Keeps-local (Local-ty_after o w)))

Local-map_type : (p : Span) → Local (map_type p)
unfolding map_type
Local-map_type p = Local-bind Local-ty (λ k. Local-bind (Local-expect _) (λ c. Local-bind Local-ty (λ v.
    Local-bind (Local-expect _) (λ q. Local-pure _))))

pub Moves-map_type : (p : Span) → Moves (map_type p)
unfolding map_type
Moves-map_type p = Moves-first Moves-ty (λ k. Keeps-local (Local-bind (Local-expect _) (λ c. Local-bind Local-ty (λ v.
    Local-bind (Local-expect _) (λ q. Local-pure _)))))

Local-map_by : (w : Word) (o : Option Span) → Local (map_by w o)
Local-map_by w (Some p) = Local-bind (Local-map_type w.span) (λ m. Local-pure _)
Local-map_by w None = Local-bind (Local-parts w) (λ ps. Local-pure _)

Local-map_or_name : Local map_or_name
unfolding map_or_name
Local-map_or_name = Local-bind Local-word (λ w. Local-bind (Local-eat _) (Local-map_by w))

Moves-map_or_name : Moves map_or_name
unfolding map_or_name
Moves-map_or_name = Moves-first Moves-word (λ w. Keeps-local (Local-bind (Local-eat _) (Local-map_by w)))

Local-field_type : Local field_type
unfolding field_type
Local-field_type =
    Local-choose _ (of_head-sees _) _ _ Local-map_or_name (Local-bind Local-ty (λ t. Local-pure _))

pub Moves-field_type : Moves field_type
unfolding field_type
Moves-field_type = Moves-choose _ Moves-map_or_name (Moves-map _ Moves-ty)

pub Local-extensions : Local extensions
unfolding extensions
Local-extensions = Local-bind (Local-expect _) (λ p. Local-bind Local-ranges (λ rs.
    Local-bind Local-options (λ os. Local-bind (Local-expect _) (λ q. Local-pure _))))

pub Moves-extensions : Moves extensions
unfolding extensions
Moves-extensions = Moves-first (Moves-expect _) (λ p. Keeps-local (Local-bind Local-ranges (λ rs.
    Local-bind Local-options (λ os. Local-bind (Local-expect _) (λ q. Local-pure _)))))

Local-repeated : (o : Option Span) → Local (repeated_if o)
Local-repeated (Some p) = Local-pure _
Local-repeated None = Local-pure _

Local-required : (o : Option Span) → Local (required_if o)
Local-required (Some p) = Local-pure _
Local-required None = Local-bind (Local-eat _) Local-repeated

Local-optional : (o : Option Span) → Local (optional_if o)
Local-optional (Some p) = Local-pure _
Local-optional None = Local-bind (Local-eat _) Local-required

pub Local-label : Local label
unfolding label
Local-label = Local-bind (Local-eat _) Local-optional

pub Moves-numbered : Moves numbered_name
unfolding numbered_name
Moves-numbered = Moves-first Moves-word (λ w. Keeps-local (Local-bind (Local-expect _) (λ e.
    Local-bind Local-int (λ n. Local-bind Local-options (λ os. Local-pure _)))))

pub Local-plain : (p : Span) (l : Labelled) → Local (plain_field p l)
unfolding plain_field
Local-plain p l = Local-bind Local-field_type (λ k. Local-bind Local-word (λ w. Local-bind (Local-expect _) (λ e.
    Local-bind Local-int (λ n. Local-bind Local-options (λ os. Local-bind (Local-expect _) (λ q. Local-pure _))))))

pub Moves-plain : (p : Span) (l : Labelled) → Moves (plain_field p l)
unfolding plain_field
Moves-plain p l = Moves-first Moves-field_type (λ k. Keeps-local (Local-bind Local-word (λ w.
    Local-bind (Local-expect _) (λ e. Local-bind Local-int (λ n. Local-bind Local-options (λ os.
    Local-bind (Local-expect _) (λ q. Local-pure _)))))))
