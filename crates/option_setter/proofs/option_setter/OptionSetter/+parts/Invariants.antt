use Rattle.option_setter.proofs.option_setter.OptionSetter.+parts.Given as goal

abbrev pub decreases-set_parts : goal.decreases-set_parts
decreases-set_parts l = l.levels
