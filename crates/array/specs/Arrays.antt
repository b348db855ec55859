-- The configuration that an array's tables hold. Assumes nothing.
use Rattle.array.specs.declared.tables.Array.{Array}
use Rattle.array.specs.Configuration.{Configuration, configuration}

abbrev pub config : Array → Configuration
config a = configuration a.groups a.volumes
