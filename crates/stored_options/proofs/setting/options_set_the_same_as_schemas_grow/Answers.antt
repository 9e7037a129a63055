use Rattle.stored_options.specs.SetOptions.{leads_by}
use Rattle.stored_options.proofs.SettingGrows.{all_stay}
use Rattle.stored_options.proofs.setting.options_set_the_same_as_schemas_grow.Goals as goal

pub returns : goal.returns
returns c = λ old_schema new_schema declared lead all values.
    all_stay old_schema new_schema declared all values (leads_by lead)
