pub mod ParserLaws
