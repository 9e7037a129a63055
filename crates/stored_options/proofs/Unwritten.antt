-- Options that a source gives, and of which nothing is left to settle, settle to what they are: those in which it wrote none,
-- and those of a map's entries.
use Rattle.std.proofs.Common.{◌≡◌, ◌∙◌, inl, inr, ℤ, List, [], ap, refl, sym, subst, arith}
use Rattle.descriptor_records.specs.Content.{OptionsContent, options_view}
use Rattle.descriptor_records.specs.declared.options.Options.{Options}
use Rattle.message_view.specs.Sound.{IsSound}
use Rattle.option_parts.specs.OptionTypes.{CanRead, ReadsOptions}
use Rattle.option_parts.specs.declared.option_scope.OptionScope.{OptionScope}
use Rattle.option_parts.specs.declared.option_scope.OptionScope.TheVariants as scopes
use Rattle.option_setter.specs.declared.option_setter.NameScope.{NameScope}
use Rattle.plain_records.specs.SaidOptions.{IsSettled}
use Rattle.plain_records.specs.SourceOptions.{AreAsRead, AreAsWritten, as_read, as_written}
use Rattle.reflect_options.specs.Settled.{Settles}
use Rattle.reflect_wire.specs.Written.{AreBytes}
use Rattle.stored_options.proofs.Again.{settled_as_read}
use Rattle.stored_options.proofs.Copied.{source_reads}
use Rattle.stored_options.proofs.Later.{stored_later}
use Rattle.stored_options.proofs.Scoped.{named_type}

-- linking reads nothing itself where nothing is written
none_copied : (scope : OptionScope) → as_read scope [] ≡ as_written []
none_copied scopes.Field = refl
none_copied scopes.Enum = refl
none_copied scope = refl

as_it_wrote : (scope : OptionScope) (o : OptionsContent) → AreAsRead scope o → IsSettled o → AreAsWritten scope o
as_it_wrote scope o (inl is) left = inl (is ∙ ap (as_read scope) left ∙ none_copied scope ∙ sym (ap as_written left))
as_it_wrote scope o (inr entries) left = inr entries

of_bytes : (scope : OptionScope) (o : OptionsContent) → AreAsRead scope o → AreBytes o.encoded
of_bytes scope o (inl is) = subst AreBytes (sym (ap (λ (c : OptionsContent). c.encoded) is)) tt
of_bytes scope o (inr entries) = subst AreBytes (sym (ap (λ (c : OptionsContent). c.encoded) entries.1)) (omega arith, (omega arith, tt))

pub unwritten_again : (scope : OptionScope) (s : NameScope) (o settled : Options) (paths : List (List ℤ)) → IsSound s.pool.now → CanRead s.pool.now scope → AreAsRead scope (options_view o)
    → IsSettled (options_view o) → Settles scope s o (options_view settled) paths → (options_view settled ≡ options_view o) × (paths ≡ [])
unwritten_again scope s o settled paths sound can given left is =
    let named = named_type scope s is.1.0 is.1.1 in
    let reads : ReadsOptions s.pool.now scope = (is.1.0.index, named, can is.1.0.index named) in
    let m = stored_later scope s.pool.now o sound reads given left in
    settled_as_read scope s o settled paths m.0 sound can (of_bytes scope (options_view o) given) m.1
    (source_reads scope (options_view o) (as_it_wrote scope (options_view o) given left)) left is
