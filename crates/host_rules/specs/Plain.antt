-- Which value a plain value is.
use Rattle.page_deeds.specs.Deeds as deeds
use Rattle.host_rules.specs.declared.Plain.{Plain}
use Rattle.host_rules.specs.declared.Plain.TheVariants.{Null, Bool, Num, Text}

abbrev pub plain : Plain → deeds.Plain
plain Null = deeds.null
plain (Bool b) = deeds.truth b
plain (Num n) = deeds.number n
plain (Text us) = deeds.text us
