-- Where a reader stands.
use Rattle.cert_text.specs.declared.reader.Reader.{Reader}
use Rattle.cert_text.specs.Reading.{Place}

abbrev pub place : Reader → Place
place r = record { number = r.number; rest = r.rest.now }
