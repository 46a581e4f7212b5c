-- Every sample holds of the definition, by computing both sides.
-- Assumes nothing.
use mathlib.Core.Path.{refl}
use Rattle.records.specs.Bytes.{number_at}
use Rattle.stream.specs.Stream.{next}
use Rattle.stream.specs.Samples.{AllHold, samples}

pub all_samples : AllHold samples
unfolding number_at next samples
all_samples = (refl, (refl, (refl, (refl, (refl, (refl, (refl, tt)))))))
