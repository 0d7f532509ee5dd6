-- Definitions that only private functions cite. No promise of a public function rests on them.
pub mod PrintParts
