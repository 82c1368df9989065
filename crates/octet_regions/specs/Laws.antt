-- The law of the answer, as the public function of laws.rt proves it.
use Rattle.std.specs.Prelude.{◌≡◌, List}
use Rattle.octet_regions.specs.declared.access.Access.{Access}
use Rattle.octet_regions.specs.declared.serial.Serial.{Serial}
use Rattle.octet_regions.specs.Choice.{IsSerial}

-- accesses have only one answer: the order of all regions, or the cycle to which the choice leads
abbrev pub OneAnswer : Type 0
OneAnswer = (accesses : List Access) (serial other : Serial) → IsSerial accesses serial → IsSerial accesses other → serial ≡ other
