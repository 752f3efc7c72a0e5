-- The lemmas that the proof of a function is found with, a set for each function.
use Rattle.ids.proofs.Hunting.{minus-one}
use Rattle.ids.proofs.Values.{read-fixed, read-part, same-swap}
use Rattle.leads.proofs.Lasting.{both-fixed, known-entry, known-readable, last-part, last_entry, last_none}
use Rattle.leads.proofs.Linking.{readings-absent, readings-fixed, readings-there}
use Rattle.names.proofs.Compared.{same-empty}
use Rattle.places.proofs.Seeking.{none_any, none_read}
use Rattle.tree.proofs.Alike.{id-none, id-some, last_end, last_step}
use Rattle.walk.proofs.Finding.{any-hit, any-kind, any-miss, any_none, reading-first}

pub ruleset any_id_set = (reading-first, any-kind, any-hit, any-miss, any_none)

pub ruleset any_id_at_set = (none_any)

pub ruleset has_filter_set = (none_any)

pub ruleset is_id_set = (same-empty, same-swap)

pub ruleset has_same_id_set = (id-some, id-none, known-entry)

pub ruleset last_of_set = (known-entry, known-readable, last-part, last_entry, last_none)

pub ruleset last_same_set = (last_step, last_end)

pub ruleset same_value_set = (same-swap, read-fixed, read-part, both-fixed)

pub ruleset link_of_set = (none_read)

pub ruleset value_place_set = (minus-one, readings-absent, readings-fixed, readings-there)
