use Rattle.protox_laws.proofs.WorkedRecords.{a_stream, all_entries, all_enum_ranges, all_int_defaults, all_int_options, all_message_ranges, all_places, all_presences, all_scalars, all_typed, odd_default, one_weak, two_public}
use Rattle.protox_laws.proofs.worked.worked_parts_of_records_are_as_written.Goals as goal

pub returns-clause-entries : goal.returns-clause-entries
returns-clause-entries c = all_entries

pub returns-clause-ranges : goal.returns-clause-ranges
returns-clause-ranges c = all_message_ranges

pub returns-clause-values : goal.returns-clause-values
returns-clause-values c = all_enum_ranges

pub returns-clause-defaults : goal.returns-clause-defaults
returns-clause-defaults c = all_int_defaults

pub returns-clause-bytes : goal.returns-clause-bytes
returns-clause-bytes c = odd_default

pub returns-clause-options : goal.returns-clause-options
returns-clause-options c = all_int_options

pub returns-clause-places : goal.returns-clause-places
returns-clause-places c = all_places

pub returns-clause-types : goal.returns-clause-types
returns-clause-types c = all_scalars

pub returns-clause-fields : goal.returns-clause-fields
returns-clause-fields c = all_typed

pub returns-clause-presences : goal.returns-clause-presences
returns-clause-presences c = all_presences

pub returns-clause-public : goal.returns-clause-public
returns-clause-public c = two_public

pub returns-clause-weak : goal.returns-clause-weak
returns-clause-weak c = one_weak

pub returns-clause-methods : goal.returns-clause-methods
returns-clause-methods c = a_stream
