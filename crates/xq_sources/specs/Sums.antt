-- What two meters show together.
use Rattle.xq_sources.specs.Meters.{Readings, counted}

-- the sums of each count, standing still at the greatest
abbrev pub sum : Readings → Readings → Readings
sum a b = record {
  rows = counted a.rows b.rows;
  singles = counted a.singles b.singles;
  looks = counted a.looks b.looks;
}
