pub mod Xml
