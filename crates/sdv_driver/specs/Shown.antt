-- What contracts see of a driver.
use Rattle.sdv_driver.specs.declared.driver.Driver.{Driver}
use Rattle.sdv_driver.specs.Driver.{Parsed}
use Rattle.sdv_driver.specs.Views.{parsed_of}

-- its text, with its tree
abbrev pub shown : Driver → Parsed
shown d = parsed_of d.text.now d.names d.entries.items
