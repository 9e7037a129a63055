-- Which numbers the names of options lead to where they stand.
use Rattle.std.specs.Prelude.{◌≡◌, ℕ}
use Rattle.descriptor_records.specs.Content.{NameContent, name_view}
use Rattle.descriptor_records.specs.declared.options.NamePart.{NamePart}
use Rattle.message_view.specs.Types.{name_at}
use Rattle.stored_options.specs.SetOptions.{Leads}
use Rattle.option_setter.specs.OptionNames.{NamesTarget}
use Rattle.option_setter.specs.declared.option_setter.NameScope.{NameScope}
use Rattle.protobuf_model.specs.Types.{Name}
use Rattle.reflect_format.specs.Takes.{target_type}
use Rattle.reflect_format.specs.declared.target.Target.{Target}
use Rattle.reflect_pool.specs.declared.message.MessageDescriptor.{MessageDescriptor}

-- that of the field or extension that such a part names in a message of the type
pub record NamesNumber (s : NameScope) (t : Name) (part : NameContent) (n : ℕ) : Type 0 where
  pub of_type : MessageDescriptor
  pub target : Target
  pub written : NamePart
  pub in_pool : of_type.pool.now ≡ s.pool.now
  pub called : name_at of_type.pool.now of_type.index ≡ t
  pub same_part : name_view written ≡ part
  pub named : NamesTarget s of_type written target
  pub number : (target_type target).number ≡ n

abbrev pub numbers_named : NameScope → Leads
numbers_named s t part n = NamesNumber s t part n
