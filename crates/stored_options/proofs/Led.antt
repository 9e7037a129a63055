-- What a part of an option's name leads to by the files of one pool.
use Rattle.std.proofs.Common.{◌≡◌, ◌∙◌, ℕ, Bool, true, false, List, map, ap, subst}
use Rattle.std.specs.Prelude.{MatchBool}
use Rattle.descriptor_records.specs.Content.{FileContent, NameContent, Text, file_view}
use Rattle.message_view.specs.Types.{name_at}
use Rattle.protobuf_model.specs.Types.{Name}
use Rattle.option_setter.specs.OptionNames.{MeansExtension, NamesExtension, NamesField}
use Rattle.option_setter.specs.declared.option_setter.NameScope.{NameScope}
use Rattle.stored_options.specs.NamedNumbers.{NamesNumber}
use Rattle.reflect_format.specs.Takes.{target_type}
use Rattle.reflect_format.specs.declared.target.Target.{Target}
use Rattle.reflect_format.specs.declared.target.Target.TheVariants as targets
use Rattle.reflect_pool.specs.declared.message.MessageDescriptor.{MessageDescriptor}
use Rattle.reflect_tables.specs.Types.{PoolType}
use Rattle.schema_view.proofs.Road.{AreLinked, built_linked}
use Rattle.stored_options.specs.Standing.{StandsIn}
use Rattle.stored_options.proofs.Numbers.{NumbersExtension, NumbersField, extension_number, field_numbered}

-- a name in parentheses means this extension, which has the number
pub record LeadsOutside (fs : List FileContent) (s : NameScope) (name : Text) (n : ℕ) : Type 0 where
  pub full : Text
  pub means : MeansExtension s name full
  pub has : NumbersExtension fs full n

-- what a part leads to, by whether it stands in parentheses
abbrev pub LeadsTo : List FileContent → NameScope → Text → NameContent → ℕ → Type 0
LeadsTo fs s t part n = MatchBool part.is_extension (LeadsOutside fs s part.name_part n)
    (NumbersField fs t part.name_part n)

-- what a part names in a message of the type
abbrev pub Names : NameScope → MessageDescriptor → NameContent → Target → Type 0
Names s d part x = MatchBool part.is_extension (NamesExtension s d part.name_part x)
    (NamesField d part.name_part x)

module _ (batches : List (List FileContent)) (p : PoolType) (s : NameScope) (file scope : Text)
    (is : StandsIn batches p s file scope) where
  abbrev linked : PoolType
  linked = is.typed.but.linked

  abbrev files : List FileContent
  files = map file_view linked.records

  lawful : AreLinked files
  lawful = built_linked batches files is.typed.but.built.built

  module _ (d : MessageDescriptor) (in_pool : d.pool.now ≡ s.pool.now) where
    same_pool : d.pool.now ≡ record linked { records = p.records }
    same_pool = in_pool ∙ is.in_pool ∙ is.typed.but.settles.settled

    outside : (name : Text) (x : Target) → NamesExtension s d name x
        → LeadsOutside files s name (target_type x).number
    outside name (targets.Field f) h = absurd h
    outside name (targets.Extension x) (own, full, means, found) = record {
      full = full;
      means = means;
      has = extension_number linked lawful is.typed.tells d
          (ap (λ (q : PoolType). q.extensions) same_pool) x own full found;
    }

    inside : (t name : Text) → name_at d.pool.now d.index ≡ t → (x : Target) → NamesField d name x
        → NumbersField files t name (target_type x).number
    inside t name called (targets.Extension x) h = absurd h
    inside t name called (targets.Field f) (own, found) =
        field_numbered linked lawful is.typed.tells d
        (ap (λ (q : PoolType). q.messages) same_pool) f own t name called found

    either : (t : Text) (part : NameContent) → name_at d.pool.now d.index ≡ t → (x : Target)
        → Names s d part x → LeadsTo files s t part (target_type x).number
    either t part called x h = by part.is_extension h where
      by : (b : Bool) → MatchBool b (NamesExtension s d part.name_part x)
          (NamesField d part.name_part x)
          → MatchBool b (LeadsOutside files s part.name_part (target_type x).number)
          (NumbersField files t part.name_part (target_type x).number)
      by true k = outside part.name_part x k
      by false k = inside t part.name_part called x k

  pub leads_to : (t : Name) (part : NameContent) (n : ℕ) → NamesNumber s t part n
      → LeadsTo files s t part n
  leads_to t part n h =
      let named : Names s h.of_type part h.target =
      subst (λ c. Names s h.of_type c h.target) h.same_part h.named in
      subst (LeadsTo files s t part) h.number
      (either h.of_type h.in_pool t part h.called h.target named)
