-- What the sections of a case file hold, read by its format: the struct that the readers take.
use Rattle.casefile.specs.declared.case.Case.{Case}
use Rattle.casefile.specs.Case.{Units, Past, Events}
use Rattle.casefile.specs.Decode.{units_in, past_in, events_in}

abbrev pub units_of : Case → Units
units_of c = units_in c.format c.units.now

abbrev pub past_of : Case → Past
past_of c = past_in c.past.now

abbrev pub events_of : Case → Events
events_of c = events_in c.format c.events.now
